-- What the house sells in a flight, point by point. By the game description it sells at the current price; that the units of a point
-- are sold in one trade, and the order of the trades, are our own rules.
use Rattle.std.specs.Prelude.{ℕ, List, map, flat_map}
use Rattle.tac_base.specs.declared.bids.Point.{Point}
use Rattle.tac_base.specs.declared.calls.Trade.{Trade}
use Rattle.tac_base.specs.Bids.{size_of}
use Rattle.tac_base.specs.Goods.{house}
use Rattle.auction_rules.specs.declared.units.BidUnit.{BidUnit}
use Rattle.auction_rules.specs.declared.units.Placed.{Placed}
use Rattle.auction_rules.specs.BidPoints.{points_among}

-- the trade in which the house sells an agent all units of a point, at the current price
abbrev pub point_sale : ℕ → ℕ → ℕ → Point → Trade
point_sale good current agent point = record { buyer = agent; seller = house; good = good; units = size_of point; price = current }

-- A trade for each point of which units are traded, in the order of the bids' positions and, within a bid, in the order of its points.
-- All units of a point have one price, so it is sold whole or not at all.
abbrev pub flight_sales : ℕ → ℕ → List BidUnit → List Placed → List Trade
flight_sales good current traded bids = flat_map (λ bid. map (point_sale good current bid.agent) (points_among traded bid)) bids
