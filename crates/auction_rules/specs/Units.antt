-- The units of bids, their numbering, and when two units are one. The numbering is our own rule.
use Rattle.std.specs.Prelude.{ℕ, zero, suc, ◌+◌, ◌==◌, Bool, not, ◌&&◌, ◌||◌, nat_lt, List, [], ◌∷◌, ◌++◌, filter, count_by}
use Rattle.std.specs.List.{list_any}
use Rattle.tac_base.specs.declared.bids.Point.{Point}
use Rattle.tac_base.specs.Bids.{buys_of, size_of}
use Rattle.auction_rules.specs.declared.units.Placed.{Placed}
use Rattle.auction_rules.specs.declared.units.BidUnit.{BidUnit}

-- the first n units of a point, given its unit with the lowest index: they differ in their indices alone, which follow one another
abbrev pub block : BidUnit → ℕ → List BidUnit
block first zero = []
block first (suc n) = block first n ++ record first { index = first.index + n } ∷ []

-- the units of a point of an agent's bid at a position, one for each unit bought or sold; their indices count up from `from`
abbrev pub point_units : ℕ → ℕ → ℕ → Point → List BidUnit
point_units agent position from point =
    block (record { agent = agent; buys = buys_of point.units; price = point.price; position = position; index = from }) (size_of point)

-- the units of some points, one point after the other; their indices count up from `from`
abbrev pub units_from : ℕ → ℕ → ℕ → List Point → List BidUnit
units_from agent position from [] = []
units_from agent position from (point ∷ points) = point_units agent position from point ++ units_from agent position (from + size_of point) points

-- The units of a bid are numbered from 0, point by point; this number is the unit's index. The position of the bid's entry is the
-- unit's place in time.
-- Row: units_go_on_through_the_points (worked_rows/proofs/Auctions.antt)
abbrev pub units_of : Placed → List BidUnit
units_of bid = units_from bid.agent bid.position 0 bid.points

-- whether both buy or both sell
abbrev pub same_side : Bool → Bool → Bool
same_side b c = (b && c) || (not b && not c)

-- Whether two units are the same one. In a history the position and the index already tell units apart; the other fields are compared
-- too.
abbrev pub same_unit : BidUnit → BidUnit → Bool
same_unit u v = (u.agent == v.agent) && (same_side u.buys v.buys && ((u.price == v.price) && ((u.position == v.position) && (u.index == v.index))))

-- whether a unit is one of the others
abbrev pub among : BidUnit → List BidUnit → Bool
among u others = list_any (same_unit u) others

-- the units that are not among the others
abbrev pub without : List BidUnit → List BidUnit → List BidUnit
without units others = filter (λ u. not (among u others)) units

-- how many of the units are among the others
abbrev pub common_units : List BidUnit → List BidUnit → ℕ
common_units units others = count_by (λ u. among u others) units

-- The unit of the earlier bid comes first, and within one bid the unit with the lower index.
abbrev pub earlier : BidUnit → BidUnit → Bool
earlier u v = nat_lt u.position v.position || ((u.position == v.position) && nat_lt u.index v.index)
