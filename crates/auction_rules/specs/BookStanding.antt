-- What stands, and what a flight sells, in the form that the books keep and the audit replays. Read `current_bids` in `History`,
-- `standing_units` in `Standing` and `flight_sales` in `FlightSales` instead: `standing_same` (proofs/SameStanding) and, in a lawful past,
-- `current_same` and `sales_same` (proofs/SameBids, proofs/SameSales) prove the two equal.
--
-- The standing units are those of the last bids, less those that calls so far traded away. A unit is identified by the position of its
-- bid and its index, so one that traded never stands again.
use Rattle.std.specs.Prelude.{ℕ, ◌==◌, ◌&&◌, Bool, true, false, not, if◌then◌else◌, List, [], ◌∷◌, ◌++◌, length, map, filter, filter_map, flat_map, nat_lt, nat_le, Option, Some, None}
use Rattle.std.specs.List.{range_with_len}
use Rattle.auction_rules.specs.Prelude.{Point, Trade, Call, Bid, agents, house, size_of}
use Rattle.tac_base.specs.declared.calls.Call.TheVariants.{Withdraw, Update}
use Rattle.auction_rules.specs.declared.units.BidUnit.{BidUnit}
use Rattle.auction_rules.specs.declared.units.Placed.{Placed}
use Rattle.auction_rules.specs.declared.units.StandingPoint.{StandingPoint}
use Rattle.auction_rules.specs.declared.rules.Rules.{Rules}
use Rattle.auction_rules.specs.declared.rules.Rules.TheVariants.{Flight as FlightRules, Hotel as HotelRules, Tickets as TicketRules}
use Rattle.auction_rules.specs.Units.{units_of, without}
use Rattle.auction_rules.specs.History.{Entry, is_admission, is_closed}
use Rattle.auction_rules.specs.FlightRule.{price, price_after}
use Rattle.auction_rules.specs.TicketMatch.{arriving}
use Rattle.auction_rules.specs.BidPoints.{left_points}
use Rattle.auction_rules.specs.BookPairs.{ticket_gone}

-- ---- what stands

-- the caller's last bid after an admitted call of its own at a position
abbrev pub bid_after : ℕ → ℕ → Call → Option Placed → Option Placed
bid_after caller position (Bid points) earlier = Some (record { agent = caller; position = position; points = points })
bid_after caller position Withdraw earlier = None
bid_after caller position call earlier = earlier

-- the agent's last admitted bid; None if there is none, or if an admitted `Withdraw` of the agent came after it
abbrev pub last_bid : ℕ → List Entry → Option Placed
last_bid agent [] = None
last_bid agent (e ∷ past) =
    if is_admission e.reply && (e.caller == agent) then bid_after e.caller (length past) e.call (last_bid agent past) else last_bid agent past

-- the last bids of the agents, in order
abbrev pub last_bids : List Entry → List (Option Placed)
last_bids past = map (λ agent. last_bid agent past) agents

-- the units of a bid, if there is one
abbrev pub units_of_last : Option Placed → List BidUnit
units_of_last None = []
units_of_last (Some bid) = units_of bid

-- the units of the bids, in order
abbrev pub units_of_bids : List (Option Placed) → List BidUnit
units_of_bids bids = flat_map units_of_last bids

-- the units of the last bids
abbrev pub bid_units : List Entry → List BidUnit
bid_units past = units_of_bids (last_bids past)

-- whether the house may sell in a call
abbrev pub is_sale : Call → Bool
is_sale (Bid points) = true
is_sale (Update tick draw) = true
is_sale call = false

-- the units that a call may sell: those that stand; a new bid's units, at the end, replace its caller's earlier ones
abbrev pub looked_at : List BidUnit → ℕ → ℕ → Call → List BidUnit
looked_at standing position caller (Bid points) =
    filter (λ u. not (u.agent == caller)) standing ++ units_of (record { agent = caller; position = position; points = points })
looked_at standing position caller call = standing

-- the units that stand once these are gone: none after a closing, and otherwise the units of the last bids that are not gone
abbrev pub left_standing : List Entry → List BidUnit → List BidUnit
left_standing past gone = if is_closed past then [] else without (bid_units past) gone

-- the units that an admitted call trades away, where `standing` are the units that stand after the past
abbrev pub gone_by : Rules → List Entry → List BidUnit → ℕ → Call → List BidUnit
gone_by (FlightRules first bound) past standing caller call =
    if is_sale call then filter (λ u. nat_le (price_after bound (price first bound past) call) u.price) (looked_at standing (length past) caller call) else []
gone_by (HotelRules rooms live) past standing caller call = []
gone_by TicketRules past standing caller call = ticket_gone standing (arriving (length past) caller call)

-- the units that all admitted calls traded away
abbrev pub gone : Rules → List Entry → List BidUnit
gone rules [] = []
gone rules (e ∷ past) =
    (if is_admission e.reply then gone_by rules past (left_standing past (gone rules past)) e.caller e.call else []) ++ gone rules past

-- the standing units
abbrev pub stand : Rules → List Entry → List BidUnit
stand rules past = left_standing past (gone rules past)

-- what is left of a bid, if there is one
abbrev pub left_of : List BidUnit → Option Placed → List Point
left_of standing None = []
left_of standing (Some bid) = left_points standing bid.agent bid.position 0 bid.points

-- the agent's standing units, combined into points in the order of its bid
abbrev pub standing_points_of : Rules → List Entry → ℕ → List Point
standing_points_of rules past agent = left_of (stand rules past) (last_bid agent past)

-- ---- what a flight sells

-- the last bids, for those agents that have one
abbrev pub placed_bids : List Entry → List Placed
placed_bids past = filter_map (λ agent. last_bid agent past) agents

-- the bids at positions below `end`, in the order of their positions
abbrev pub by_position : List Placed → ℕ → List Placed
by_position bids end = flat_map (λ position. filter (λ bid. bid.position == position) bids) (range_with_len 0 end)

-- the points of an agent, each with the agent
abbrev pub owned_by : ℕ → List Point → List StandingPoint
owned_by agent points = map (λ point. record { agent = agent; point = point }) points

-- the points of a bid that stand, if these units stand
abbrev pub standing_of : List BidUnit → Placed → List StandingPoint
standing_of units bid = owned_by bid.agent (left_of units (Some bid))

-- the sale of a whole point at the current price
abbrev pub sale : ℕ → ℕ → StandingPoint → Trade
sale good current s = record { buyer = s.agent; seller = house; good = good; units = size_of s.point; price = current }

-- the points that stand after a past, in the order of their bids' positions, and within a bid in its order
abbrev pub standing_points : Rules → List Entry → List StandingPoint
standing_points rules past = flat_map (standing_of (stand rules past)) (by_position (placed_bids past) (length past))

-- the points that a call may sell: those that stand; a new bid's points, at the end, replace its caller's earlier ones
abbrev pub points_looked_at : List StandingPoint → ℕ → Call → List StandingPoint
points_looked_at standing caller (Bid points) = filter (λ s. not (s.agent == caller)) standing ++ owned_by caller points
points_looked_at standing caller call = standing

-- whether a point is sold: it has units, and its price is at least the current one
abbrev pub is_sold : ℕ → StandingPoint → Bool
is_sold current s = nat_lt 0 (size_of s.point) && nat_le current s.point.price

-- one trade for each of the points that is sold
abbrev pub flight_trades : ℕ → ℕ → List StandingPoint → List Trade
flight_trades good current points = map (sale good current) (filter (is_sold current) points)
