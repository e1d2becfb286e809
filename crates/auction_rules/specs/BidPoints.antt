-- Units of bids, put together again as points, in our own form: those that a flight sells, and those that a reply to `own` shows.
use Rattle.std.specs.Prelude.{ℕ, ◌+◌, ◌==◌, if◌then◌else◌, List, [], ◌∷◌, ℤ, pos, neg_ℤ, filter, flat_map, count_by}
use Rattle.tac_base.specs.declared.bids.Point.{Point}
use Rattle.tac_base.specs.Bids.{buys_of, size_of}
use Rattle.auction_rules.specs.declared.units.BidUnit.{BidUnit}
use Rattle.auction_rules.specs.declared.units.Placed.{Placed}
use Rattle.auction_rules.specs.Units.{point_units, among}
use Rattle.auction_rules.specs.History.{Entry, current_bids}

-- a number of units, negative if those of the point are to be sold
abbrev pub signed_as : ℤ → ℕ → ℤ
signed_as units count = if buys_of units then pos count else neg_ℤ (pos count)

-- The points of a bid, each with only those of its units that are among `standing`; a point without such units is left out. The units
-- of these points are numbered from `from` on.
abbrev pub left_points : List BidUnit → ℕ → ℕ → ℕ → List Point → List Point
left_points standing agent position from [] = []
left_points standing agent position from (point ∷ points) =
    let count = count_by (λ u. among u standing) (point_units agent position from point) in
    let more = left_points standing agent position (from + size_of point) points in
    if count == 0 then more else record { units = signed_as point.units count; price = point.price } ∷ more

-- the points of a bid, each with only those of its units that are among `units`; a point without such units is left out
abbrev pub points_among : List BidUnit → Placed → List Point
points_among units bid = left_points units bid.agent bid.position 0 bid.points

-- the agent's standing units, put together again as points of its bid
abbrev pub points_of_agent : List BidUnit → List Entry → ℕ → List Point
points_of_agent standing past agent = flat_map (points_among standing) (filter (λ bid. bid.agent == agent) (current_bids past))
