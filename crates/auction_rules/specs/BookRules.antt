-- The refusals, the entries and the legal histories in the form that the books, the floor and the audit use: over a past alone, with what
-- `stand`s after it. Read `first_refusal` in `Refusals` and `entry_due` and `IsLegalHistory` in `Legal` instead: `legal_history` and
-- `legal_by_book` (proofs/SameRules) show the same histories to be legal.
use Rattle.std.specs.Prelude.{◌≡◌, ℕ, ◌==◌, ◌≤◌, ⊤, not, ◌&&◌, ◌||◌, Bool, if◌then◌else◌, List, [], ◌∷◌, length, reverse, Option, Some, None}
use Rattle.std.specs.List.{AllByRecursion, list_any}
use Rattle.auction_rules.specs.Prelude.{Point, Trade, Call, Reply, Closed, WrongCall, NoBid, Sell, SelfCross, clock}
use Rattle.tac_base.specs.declared.calls.Call.TheVariants.{Bid, Withdraw, Own as OwnCall, Close}
use Rattle.tac_base.specs.declared.calls.Reply.TheVariants.{Taken, Own, Sold, Done}
use Rattle.auction_rules.specs.Setup.{Setup}
use Rattle.auction_rules.specs.declared.rules.Rules.{Rules}
use Rattle.auction_rules.specs.declared.rules.Rules.TheVariants.{Flight as FlightRules, Hotel as HotelRules, Tickets as TicketRules}
use Rattle.auction_rules.specs.History.{Entry, is_own, is_close, is_closed}
use Rattle.auction_rules.specs.Effects.{bought, sold, holding}
use Rattle.auction_rules.specs.FlightRule.{price, price_after}
use Rattle.auction_rules.specs.TicketMatch.{arriving}
use Rattle.auction_rules.specs.Ask.{ask}
use Rattle.auction_rules.specs.Refusals.{is_wrong_caller, is_wrong_place, sells, crosses_itself, hotel_refusal}
use Rattle.auction_rules.specs.Legal.{cap, entries_of}
use Rattle.auction_rules.specs.BookPairs.{ticket_trades}
use Rattle.auction_rules.specs.BookStanding.{is_sale, stand, standing_points_of, standing_points, points_looked_at, flight_trades}
use Rattle.auction_rules.specs.BookHotels.{need, quote_to_beat, closing_trades, sold_units}

-- ---- refusals

-- whether the agent has a standing unit
abbrev pub has_standing : Rules → List Entry → ℕ → Bool
has_standing rules past agent = list_any (λ u. u.agent == agent) (stand rules past)

-- the refusals that only a bid has
abbrev pub bid_refusal : Rules → List Entry → ℕ → List Point → Option Reply
bid_refusal (FlightRules first bound) past caller points = if sells points then Some Sell else None
bid_refusal (HotelRules rooms live) past caller points = hotel_refusal (need rooms live past caller) (quote_to_beat rooms live past) points
bid_refusal TicketRules past caller points = if crosses_itself points then Some SelfCross else None

-- the refusals that depend on the kind of call
abbrev pub call_refusal : Rules → List Entry → ℕ → Call → Option Reply
call_refusal rules past caller (Bid points) = bid_refusal rules past caller points
call_refusal rules past caller Withdraw = if has_standing rules past caller then None else Some NoBid
call_refusal rules past caller call = None

-- the first refusal that applies
abbrev pub refusal : Rules → List Entry → ℕ → Call → Option Reply
refusal rules past caller call =
    if not (is_own call) && is_closed past then Some Closed
    else if is_wrong_caller caller call || is_wrong_place rules call then Some WrongCall
    else call_refusal rules past caller call

-- ---- entries

-- the trades of an admitted call in an auction of the good
abbrev pub trades_by : Rules → ℕ → List Entry → ℕ → Call → List Trade
trades_by (FlightRules first bound) good past caller call =
    if is_sale call then flight_trades good (price_after bound (price first bound past) call) (points_looked_at (standing_points (FlightRules first bound) past) caller call) else []
trades_by (HotelRules rooms live) good past caller call = if is_close call then closing_trades good rooms (stand (HotelRules rooms live) past) else []
trades_by TicketRules good past caller call = ticket_trades good (stand TicketRules past) (arriving (length past) caller call)

abbrev pub admitted_trades : Setup → List Entry → ℕ → Call → List Trade
admitted_trades setup past caller call = trades_by setup.rules setup.good past caller call

-- the reply to an admitted closing
abbrev pub close_reply : Rules → List Entry → Reply
close_reply (HotelRules rooms live) past = Sold (sold_units rooms (stand (HotelRules rooms live) past)) (ask rooms (stand (HotelRules rooms live) past))
close_reply rules past = Done

-- the reply to an admitted call
abbrev pub admitted_reply : Setup → List Entry → ℕ → Call → Reply
admitted_reply setup past caller (Bid points) =
    Taken (bought (admitted_trades setup past caller (Bid points)) caller) (sold (admitted_trades setup past caller (Bid points)) caller)
admitted_reply setup past caller OwnCall = Own (holding setup past caller) (standing_points_of setup.rules past caller)
admitted_reply setup past caller Close = close_reply setup.rules past
admitted_reply setup past caller call = Done

-- the entry of a call: refused, or admitted with its trades
abbrev pub entry_by : Setup → List Entry → ℕ → Call → Option Reply → Entry
entry_by setup past caller call (Some refused) = record { caller = caller; call = call; reply = refused; trades = [] }
entry_by setup past caller call None =
    record { caller = caller; call = call; reply = admitted_reply setup past caller call; trades = admitted_trades setup past caller call }

-- the entry that the rules give for a caller's call after a past
abbrev pub entry_of : Setup → List Entry → ℕ → Call → Entry
entry_of setup past caller call = entry_by setup past caller call (refusal setup.rules past caller call)

abbrev pub reply_of : Setup → List Entry → ℕ → Call → Reply
reply_of setup past caller call = (entry_of setup past caller call).reply

abbrev pub trades_of : Setup → List Entry → ℕ → Call → List Trade
trades_of setup past caller call = (entry_of setup past caller call).trades

-- each entry of a past is the one that the rules give for its caller and call after the entries before it
abbrev pub IsLawful : Setup → List Entry → Type 0
IsLawful setup [] = ⊤
IsLawful setup (e ∷ past) = (e ≡ entry_of setup past e.caller e.call) × IsLawful setup past

-- the past that calls make, the newest call first
abbrev pub past_of : Setup → List (ℕ × Call) → List Entry
past_of setup [] = []
past_of setup ((caller, call) ∷ calls) = entry_of setup (past_of setup calls) caller call ∷ past_of setup calls

-- a history, oldest entry first, is legal: the rules give its entries, each caller is an agent or the clock, and none of them has
-- more entries than its cap
pub record Legal (setup : Setup) (history : List Entry) : Type 0 where
  pub lawful : IsLawful setup (reverse history)
  pub called : AllByRecursion (λ e. e.caller ≤ clock) history
  pub capped : (caller : ℕ) → caller ≤ clock → entries_of history caller ≤ cap caller
