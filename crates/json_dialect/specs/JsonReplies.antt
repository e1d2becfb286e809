-- The JSON text of the server's lines to an agent. The texts are our own.
use Rattle.std.specs.Prelude.{ℕ, ℤ, List, [], ◌∷◌, ◌++◌, Bool, true, false, if◌then◌else◌, nat_lt, decimal, codes, map}
use Rattle.std.specs.Fmt.{signed_decimal}
use Rattle.std.specs.List.{concat, join_with_byte}
use Rattle.tac_base.specs.declared.bids.Point.{Point}
use Rattle.tac_base.specs.declared.calls.Board.{Board}
use Rattle.tac_base.specs.declared.calls.Reply.{Reply}
use Rattle.line_protocol.specs.declared.asking.RequestFault.{RequestFault}
use Rattle.line_protocol.specs.declared.saying.Said.{Said}
use Rattle.line_protocol.specs.Replies.{fault_number}
use Rattle.tac_base.specs.declared.calls.Reply.TheVariants.{Taken, Own, Sold, Done, Closed, WrongCall, NoBid, Sell, SelfCross, BelowQuote}
use Rattle.line_protocol.specs.declared.asking.RequestFault.TheVariants as faults
use Rattle.line_protocol.specs.declared.saying.Said.TheVariants.{At, Cash, Quote, Spent, Fault, TooLong, Bye}

-- two numbers, as `[2,150]`
abbrev pub pair_text : List ℕ → List ℕ → List ℕ
pair_text first second = concat (codes "[" ∷ first ∷ codes "," ∷ second ∷ codes "]" ∷ [])

-- a point, its units and its price
abbrev pub json_point_text : Point → List ℕ
json_point_text point = pair_text (signed_decimal point.units) (decimal point.price)

-- the text that the next point adds after `count` others
abbrev pub json_next_text : ℕ → Point → List ℕ
json_next_text count point = if nat_lt 0 count then 44 ∷ json_point_text point else json_point_text point

-- the points, as `[[2,150],[1,100]]`
abbrev pub points_text : List Point → List ℕ
points_text points = concat (codes "[" ∷ join_with_byte 44 (map json_point_text points) ∷ codes "]" ∷ [])

-- the members for a holding and standing points
abbrev pub own_members : ℤ → List Point → List ℕ
own_members holding left = concat (codes "\"own\":" ∷ signed_decimal holding ∷ codes ",\"points\":" ∷ points_text left ∷ [])

-- the members for a hotel bid below the quote
abbrev pub below_members : ℕ → ℕ → ℕ → List ℕ
below_members need at offered = concat (codes "\"no\":\"belowquote\",\"need\":" ∷ decimal need ∷ codes ",\"price\":" ∷ decimal at ∷ codes ",\"offered\":" ∷ decimal offered ∷ [])

-- the members for a reply, after that for its position
abbrev pub reply_members : Reply → List ℕ
reply_members (Taken bought sold) = codes "\"taken\":" ++ pair_text (decimal bought) (decimal sold)
reply_members (Own holding left) = own_members holding left
reply_members (Sold units price) = codes "\"sold\":" ++ pair_text (decimal units) (decimal price)
reply_members Done = codes "\"done\":true"
reply_members Closed = codes "\"no\":\"closed\""
reply_members WrongCall = codes "\"no\":\"wrongcall\""
reply_members NoBid = codes "\"no\":\"nobid\""
reply_members Sell = codes "\"no\":\"sell\""
reply_members SelfCross = codes "\"no\":\"selfcross\""
reply_members (BelowQuote need at offered) = below_members need at offered

-- the members for an agent's cash
abbrev pub cash_members : ℤ → List ℕ
cash_members dollars = codes "\"cash\":" ++ signed_decimal dollars

-- whether an auction is open, given whether it is closed
abbrev pub openness : Bool → List ℕ
openness true = codes "false"
openness false = codes "true"

-- the members for a board, after that for the number of its entries
abbrev pub quote_members : Board → List ℕ
quote_members board = concat (codes "\"quote\":" ∷ pair_text (decimal board.bid) (decimal board.ask) ∷ codes ",\"open\":" ∷ openness board.closed ∷ [])

-- the start of an object with a position
abbrev pub json_place : ℕ → List ℕ
json_place position = concat (codes "{\"at\":" ∷ decimal position ∷ codes "," ∷ [])

-- an object of a position and other members
abbrev pub placed : ℕ → List ℕ → List ℕ
placed position members = concat (json_place position ∷ members ∷ codes "}" ∷ [])

-- the object for a line that is not a request
abbrev pub fault_text : RequestFault → List ℕ
fault_text faults.Syntax = codes "{\"no\":\"syntax\"}"
fault_text faults.NoSuchAuction = codes "{\"no\":\"auction\"}"
fault_text (faults.Bid fault) = concat (codes "{\"no\":\"bid\",\"fault\":" ∷ decimal (fault_number fault) ∷ codes "}" ∷ [])
fault_text faults.Memory = codes "{\"no\":\"memory\"}"

-- the object of a reply, without a line end
abbrev pub json_text : Said → List ℕ
json_text (At position reply) = placed position (reply_members reply)
json_text (Cash position dollars) = placed position (cash_members dollars)
json_text (Quote board) = placed board.count (quote_members board)
json_text Spent = codes "{\"no\":\"spent\"}"
json_text (Fault fault) = fault_text fault
json_text TooLong = codes "{\"no\":\"toolong\"}"
json_text Bye = codes "{\"bye\":true}"
