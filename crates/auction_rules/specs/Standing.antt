-- Which units stand, from each entry to the next. After TAC, from memory, a new bid replaces the whole earlier one.
--
-- For example, at a flight whose price is 300, where a unit is written as (position of its bid, index):
--   position  call                             units found        traded  standing
--   0         agent 2: 1 at 310 and 2 at 200   (0,0) (0,1) (0,2)  (0,0)   (0,1) (0,2)
--   1         agent 2: 1 at 290                (1,0)              none    (1,0)
--   2         the clock: the price is now 290  (1,0)              (1,0)   none
use Rattle.std.specs.Prelude.{ℕ, ◌==◌, if◌then◌else◌, List, [], ◌∷◌, length, filter, flat_map, nat_le}
use Rattle.tac_base.specs.declared.calls.Call.{Call}
use Rattle.tac_base.specs.Goods.{agents}
use Rattle.tac_base.specs.declared.calls.Call.TheVariants.{Withdraw, Bid}
use Rattle.auction_rules.specs.declared.units.BidUnit.{BidUnit}
use Rattle.auction_rules.specs.declared.rules.Rules.{Rules}
use Rattle.auction_rules.specs.declared.rules.Rules.TheVariants.{Flight as FlightRules, Hotel as HotelRules, Tickets as TicketRules}
use Rattle.auction_rules.specs.Units.{units_of, without}
use Rattle.auction_rules.specs.History.{Entry, is_admission, is_closed}
use Rattle.auction_rules.specs.FlightRule.{price, price_after}
use Rattle.auction_rules.specs.TicketMatch.{arriving, ticket_pairs}

-- the standing units, agent by agent, with `units` in place of those of one agent
abbrev pub replaced_units : List BidUnit → ℕ → List BidUnit → List BidUnit
replaced_units standing agent units = flat_map (λ a. if agent == a then units else filter (λ u. u.agent == a) standing) agents

-- The units once an admitted call has changed its agent's own, before any of them trade. A new bid replaces its agent's whole earlier
-- bid, and all its units get the new bid's place in time. A withdrawal removes its agent's units, and any other call changes none.
abbrev pub units_found : List BidUnit → ℕ → ℕ → Call → List BidUnit
units_found standing position caller (Bid points) = replaced_units standing caller (units_of (record { agent = caller; position = position; points = points }))
units_found standing position caller Withdraw = replaced_units standing caller []
units_found standing position caller call = standing

-- The units that an admitted call trades away, of those that it finds. At a flight, the house sells those whose price is at or above the
-- current one, which is the new price after an update; only a bid or an update brings such units. In a hotel there are none: its closing
-- alone sells, and then nothing stands. For tickets, the arriving units and their partners trade. `standing` are the units that stand
-- before the call.
abbrev pub units_traded : Rules → List Entry → List BidUnit → ℕ → Call → List BidUnit
units_traded (FlightRules first bound) past standing caller call =
    filter (λ u. nat_le (price_after bound (price first bound past) call) u.price) (units_found standing (length past) caller call)
units_traded (HotelRules rooms live) past standing caller call = []
units_traded TicketRules past standing caller call = flat_map (λ pair. pair.0 ∷ pair.1 ∷ []) (ticket_pairs standing (arriving (length past) caller call))

-- The untraded units of the bids stand; once the auction is closed, nothing does. An admitted call leaves the units that it finds,
-- without those that it trades away, and a refused call changes nothing.
abbrev pub standing_units : Rules → List Entry → List BidUnit
standing_units rules [] = []
standing_units rules (e ∷ past) =
    if is_closed (e ∷ past) then []
    else if is_admission e.reply then without (units_found (standing_units rules past) (length past) e.caller e.call) (units_traded rules past (standing_units rules past) e.caller e.call)
    else standing_units rules past
