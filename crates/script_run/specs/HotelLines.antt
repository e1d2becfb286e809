-- What a line of a hotel script requests.
use Rattle.std.specs.Prelude.{ℕ, ◌-◌, ◌&&◌, nat_le, if◌then◌else◌, List, [], ◌∷◌, Option, Some, None, Result, Ok, Err, codes, bytes_eq}
use Rattle.std.specs.List.{join_with_byte}
use Rattle.script_run.specs.Prelude.{Point, Call, words_of, points_of, judged, clock}
use Rattle.tac_base.specs.declared.bids.BidFault.{BidFault}
use Rattle.tac_base.specs.declared.calls.Call.TheVariants as calls
use Rattle.script_run.specs.declared.fault.ScriptReason.{ScriptReason}
use Rattle.script_run.specs.declared.fault.ScriptReason.TheVariants.{Form, Points}
use Rattle.script_run.specs.declared.hotel.lines.HotelLine.{HotelLine}
use Rattle.script_run.specs.declared.hotel.lines.HotelLine.TheVariants.{Bid, Own, Publish, Close}

-- a line of one word is the clock's
abbrev pub clock_line : List ℕ → Result HotelLine ScriptReason
clock_line word =
    if bytes_eq word (codes "publish") then Ok Publish
    else if bytes_eq word (codes "close") then Ok Close
    else Err Form

-- an agent is one digit `0` to `7`
abbrev pub agent_of : List ℕ → Option ℕ
agent_of [] = None
agent_of (digit ∷ []) = if nat_le 48 digit && nat_le digit 55 then Some (digit - 48) else None
agent_of (digit ∷ other ∷ more) = None

-- a bid of points, if they were read
abbrev pub hotel_bid : ℕ → Result (List Point) BidFault → Result HotelLine ScriptReason
hotel_bid agent (Err fault) = Err Points
hotel_bid agent (Ok points) = Ok (Bid agent points)

-- a line of an agent, a word and points
abbrev pub hotel_bid_line : Option ℕ → List ℕ → List ℕ → Result HotelLine ScriptReason
hotel_bid_line None keyword points = Err Form
hotel_bid_line (Some agent) keyword points = if bytes_eq keyword (codes "bid") then hotel_bid agent (judged (points_of points)) else Err Form

-- a line of an agent and a word
abbrev pub own_line : Option ℕ → List ℕ → Result HotelLine ScriptReason
own_line None keyword = Err Form
own_line (Some agent) keyword = if bytes_eq keyword (codes "own") then Ok (Own agent) else Err Form

abbrev pub line_of_words : List (List ℕ) → Result HotelLine ScriptReason
line_of_words [] = Err Form
line_of_words (word ∷ []) = clock_line word
line_of_words (agent ∷ keyword ∷ []) = own_line (agent_of agent) keyword
line_of_words (agent ∷ keyword ∷ word ∷ words) = hotel_bid_line (agent_of agent) keyword (join_with_byte 32 (word ∷ words))

-- what a line requests, or the reason why it is bad in itself
unfoldable pub hotel_line_of : List ℕ → Result HotelLine ScriptReason
hotel_line_of line = line_of_words (words_of line)

-- the caller and the call of a line
abbrev pub asked : HotelLine → ℕ × Call
asked (Bid agent points) = (agent, calls.Bid points)
asked (Own agent) = (agent, calls.Own)
asked Publish = (clock, calls.Publish)
asked Close = (clock, calls.Close)
