-- Tickets: which standing unit an arriving unit trades with, and what is traded. The rule is after TAC, from memory.
use Rattle.std.specs.Prelude.{ℕ, ◌==◌, Bool, not, ◌&&◌, ◌||◌, nat_lt, nat_le, if◌then◌else◌, List, [], ◌∷◌, Option, Some, None, filter, find}
use Rattle.std.specs.List.{list_all}
use Rattle.tac_base.specs.declared.calls.Trade.{Trade}
use Rattle.tac_base.specs.declared.calls.Call.{Call}
use Rattle.tac_base.specs.declared.calls.Call.TheVariants.{Bid}
use Rattle.auction_rules.specs.declared.units.BidUnit.{BidUnit}
use Rattle.auction_rules.specs.Units.{units_of, same_side, earlier, without}

-- An admitted bid first replaces the agent's earlier bid. Then its units arrive one by one, in the order of their indices. No other
-- call makes units arrive.
abbrev pub arriving : ℕ → ℕ → Call → List BidUnit
arriving position caller (Bid points) = units_of (record { agent = caller; position = position; points = points })
arriving position caller call = []

-- Whether the standing unit belongs to another agent and is on the other side. So an agent never trades with itself, and its old
-- units, which are still among the standing ones here, are left out.
-- Row: new_bid_does_not_meet_the_old_one (worked_rows/proofs/Auctions.antt)
abbrev pub faces : BidUnit → BidUnit → Bool
faces arriving standing = not (arriving.agent == standing.agent) && not (same_side arriving.buys standing.buys)

-- The two units can trade if the seller's price is at most the buyer's.
-- Row: equal_prices_trade (worked_rows/proofs/Auctions.antt)
abbrev pub crosses : BidUnit → BidUnit → Bool
crosses arriving standing = if arriving.buys then nat_le standing.price arriving.price else nat_le arriving.price standing.price

-- Of two units on one side, the first has the better price: if they sell, the lower one, and if they buy, the higher one.
-- Row: cheapest_then_earliest_and_dearest_first (worked_rows/proofs/Auctions.antt)
abbrev pub better : BidUnit → BidUnit → Bool
better u v = if u.buys then nat_lt v.price u.price else nat_lt u.price v.price

-- Of two units on one side, the one with the better price goes first; at equal prices the one with the earlier position, and within
-- one bid the one with the lower index.
-- Row: cheapest_then_earliest_and_dearest_first (worked_rows/proofs/Auctions.antt)
abbrev pub goes_before : BidUnit → BidUnit → Bool
goes_before u v = better u v || ((u.price == v.price) && earlier u v)

-- the unit that no other one goes before, or None if there are no units
abbrev pub best : List BidUnit → Option BidUnit
best units = find (λ u. list_all (λ v. not (goes_before v u)) units) units

-- The partner of an arriving unit is the first one, in the order above, of the standing units that it faces and whose prices cross with
-- its own: the cheapest that sells, or the buying one with the highest price.
-- Row: trade_is_at_the_standing_price (worked_rows/proofs/Auctions.antt)
abbrev pub partner_of : List BidUnit → BidUnit → Option BidUnit
partner_of standing arriving = best (filter (λ u. faces arriving u && crosses arriving u) standing)

-- the arriving units that trade, in order, each with its partner; a standing unit that was taken is no partner of a later unit
-- Row: new_bid_does_not_meet_the_old_one (worked_rows/proofs/Auctions.antt)
abbrev pub ticket_pairs : List BidUnit → List BidUnit → List (BidUnit × BidUnit)
ticket_pairs standing [] = []
ticket_pairs standing (unit ∷ units) =
    elim (partner_of standing unit) [ None ↦ ticket_pairs standing units | Some taken ↦ (unit, taken) ∷ ticket_pairs (without standing (taken ∷ [])) units ]

-- The trade is at the price of the standing unit. Each pair of units makes a trade of its own, and an arriving unit that does not
-- trade becomes a standing unit.
-- Row: trade_is_at_the_standing_price (worked_rows/proofs/Auctions.antt)
abbrev pub pair_trade : ℕ → BidUnit × BidUnit → Trade
pair_trade good (arriving, standing) =
    if arriving.buys then record { buyer = arriving.agent; seller = standing.agent; good = good; units = 1; price = standing.price }
    else record { buyer = standing.agent; seller = arriving.agent; good = good; units = 1; price = standing.price }
