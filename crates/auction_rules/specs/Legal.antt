-- The entry that the rules give for a call, and the histories that consist of such entries. The limits of calls are our own rule.
use Rattle.std.specs.Prelude.{◌≡◌, ℕ, ◌==◌, ◌≤◌, ⊤, if◌then◌else◌, List, [], ◌∷◌, length, map, reverse, Some, None, count_by}
use Rattle.std.specs.List.{AllByRecursion}
use Rattle.tac_base.specs.declared.calls.Trade.{Trade}
use Rattle.tac_base.specs.declared.calls.Call.{Call}
use Rattle.tac_base.specs.declared.calls.Reply.{Reply}
use Rattle.tac_base.specs.declared.limits.TheConstants.{AGENT_CALLS, CLOCK_CALLS}
use Rattle.tac_base.specs.Goods.{clock}
use Rattle.tac_base.specs.declared.calls.Call.TheVariants.{Bid, Own as OwnCall, Close}
use Rattle.tac_base.specs.declared.calls.Reply.TheVariants.{Taken, Own, Sold, Done}
use Rattle.auction_rules.specs.Setup.{Setup}
use Rattle.auction_rules.specs.declared.units.BidUnit.{BidUnit}
use Rattle.auction_rules.specs.declared.rules.Rules.{Rules}
use Rattle.auction_rules.specs.declared.rules.Rules.TheVariants.{Flight as FlightRules, Hotel as HotelRules, Tickets as TicketRules}
use Rattle.auction_rules.specs.History.{Entry, is_close, bids_found, current_bids}
use Rattle.auction_rules.specs.Effects.{bought, sold, holding}
use Rattle.auction_rules.specs.FlightRule.{price, price_after}
use Rattle.auction_rules.specs.FlightSales.{flight_sales}
use Rattle.auction_rules.specs.TicketMatch.{arriving, ticket_pairs, pair_trade}
use Rattle.auction_rules.specs.Standing.{units_traded, standing_units}
use Rattle.auction_rules.specs.BidPoints.{points_of_agent}
use Rattle.auction_rules.specs.Ask.{ask}
use Rattle.auction_rules.specs.HotelClosing.{gets_room, room_sales}
use Rattle.auction_rules.specs.Refusals.{first_refusal}

-- The trades of an admitted call: the house sells seats at the price after the call, and rooms at the closing; tickets trade at the
-- price of the standing unit. `standing` are the units that stand before the call, without a new bid.
abbrev pub call_trades : Rules → ℕ → List Entry → List BidUnit → ℕ → Call → List Trade
call_trades (FlightRules first bound) good past standing caller call =
    flight_sales good (price_after bound (price first bound past) call) (units_traded (FlightRules first bound) past standing caller call) (bids_found (current_bids past) (length past) caller call)
call_trades (HotelRules rooms live) good past standing caller call = if is_close call then room_sales good rooms standing else []
call_trades TicketRules good past standing caller call = map (pair_trade good) (ticket_pairs standing (arriving (length past) caller call))

-- The reply to the closing of a hotel night gives the number of units sold and their price.
abbrev pub closing_reply : Rules → List BidUnit → Reply
closing_reply (HotelRules rooms live) standing = Sold (count_by (gets_room rooms standing) standing) (ask rooms standing)
closing_reply rules standing = Done

-- The reply to a bid says how many units the agent bought and sold in this entry, and that to `Own` gives the agent's holding of the
-- good and its standing points. Any other call gets an acknowledgement, except the closing of a hotel night.
abbrev pub call_reply : Setup → List Entry → List BidUnit → ℕ → Call → List Trade → Reply
call_reply setup past standing caller (Bid points) trades = Taken (bought trades caller) (sold trades caller)
call_reply setup past standing caller OwnCall trades = Own (holding setup past caller) (points_of_agent standing past caller)
call_reply setup past standing caller Close trades = closing_reply setup.rules standing
call_reply setup past standing caller call trades = Done

-- The entry that the rules give for a caller's call after a past. A refused call has an entry with its refusal and no trades, and an
-- admitted one with its reply and its trades.
abbrev pub entry_due : Setup → List Entry → ℕ → Call → Entry
entry_due setup past caller call =
    let standing = standing_units setup.rules past in
    let trades = call_trades setup.rules setup.good past standing caller call in
    elim (first_refusal setup.rules past standing caller call) [
      | Some refused ↦ record { caller = caller; call = call; reply = refused; trades = [] }
      | None ↦ record { caller = caller; call = call; reply = call_reply setup past standing caller call trades; trades = trades }
    ]

-- Each entry of a past is the one that the rules give for its caller and call after the entries before it.
abbrev pub AreDueEntries : Setup → List Entry → Type 0
AreDueEntries setup [] = ⊤
AreDueEntries setup (e ∷ past) = (e ≡ entry_due setup past e.caller e.call) × AreDueEntries setup past

-- how many entries a caller has; refused calls count
-- Row: refused_calls_count (worked_rows/proofs/Auctions.antt)
abbrev pub entries_of : List Entry → ℕ → ℕ
entries_of history caller = count_by (λ e. e.caller == caller) history

-- In one auction, an agent has at most 1024 calls, refused calls included, and the clock at most 64.
-- Row: cap_of_agents_and_clock (worked_rows/proofs/Auctions.antt)
abbrev pub cap : ℕ → ℕ
cap caller = if caller == clock then CLOCK_CALLS else AGENT_CALLS

-- A history, oldest entry first, is legal if the rules give its entries, each caller is an agent or the clock, and no caller has more
-- entries than its cap. A single thread could have made such a history: this is what the headline calls a legal one-thread history.
pub record IsLegalHistory (setup : Setup) (history : List Entry) : Type 0 where
  pub lawful : AreDueEntries setup (reverse history)
  pub called : AllByRecursion (λ e. e.caller ≤ clock) history
  pub capped : (caller : ℕ) → caller ≤ clock → entries_of history caller ≤ cap caller
