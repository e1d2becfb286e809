-- The trades of a flight by its units: the bids that a call looks at are joined again with the units of them that it looks at. The rule,
-- which goes by the points that stand, gives the same trades after all pasts.
use Rattle.std.proofs.Common.{◌≡◌, ℕ, zero, suc, ◌+◌, Bool, true, false, cond, List, [], ◌∷◌, ◌++◌, length, map, refl, sym, ap, ◌∙◌, arith, add-one, not, ◌&&◌, ◌==◌, nat_le, nat_lt, filter, if◌then◌else◌, flat_map, lt-ltb}
use Rattle.std.specs.List.{range_with_len}
use Rattle.std.proofs.lemmas.List.{map-append}
use Rattle.std.proofs.lemmas.List.Elements.{filter-append}
use Rattle.flight_auction.specs.Prelude.{Point, Trade, Call, Bid, Withdraw, Own as OwnCall, Update, Publish, Close, size_of, house, BidUnit, Placed, StandingPoint, Rules, Entry, point_units, units_from, units_of, among, common_units, looked_at, placed_bids, by_position, owned_by, standing_of, standing_points, points_looked_at, is_sold, sale, flight_trades, stand, signed_as, left_points}
use Rattle.auction_rules.proofs.Blocks.{length-point_units}
use Rattle.auction_rules.proofs.LeftPoints.{suc_not_zero, signed_size}
use Rattle.auction_rules.proofs.Lists.{filter-flat_map, map-flat_map, flat_map-flat_map, flat_map_alike}
use Rattle.auction_rules.proofs.Standing.{AllAmong, count_all, each-front, each-back, all_among_right, all_among_self}
use Rattle.flight_auction.proofs.Changes.{looked, others_stand}
use Rattle.auction_rules.proofs.Order.{of_others, below_more, looked_order, order_more}

-- ---- the trades by the units

-- the bids that a call looks at, with the new one in place of its caller's
abbrev pub bids_looked_at : List Placed → ℕ → ℕ → Call → List Placed
bids_looked_at bids position caller (Bid points) =
    filter (λ bid. not (bid.agent == caller)) bids ++ record { agent = caller; position = position; points = points } ∷ []
bids_looked_at bids position caller call = bids

-- one trade for each point at or above the current price that has a unit among those looked at; the points' units are numbered from an index
abbrev pub point_trades : ℕ → ℕ → List BidUnit → Placed → ℕ → List Point → List Trade
point_trades good current units bid from [] = []
point_trades good current units bid from (point ∷ points) =
    let count = common_units (point_units bid.agent bid.position from point) units in
    let more = point_trades good current units bid (from + size_of point) points in
    if nat_le current point.price && nat_lt 0 count
    then record { buyer = bid.agent; seller = house; good = good; units = count; price = current } ∷ more
    else more

-- the positions below a number, in order
abbrev pub positions_below : ℕ → List ℕ
positions_below zero = []
positions_below (suc n) = positions_below n ++ n ∷ []

-- the trades of the bids made below a position: by bid position, and then by point
abbrev pub unit_trades : ℕ → ℕ → List BidUnit → List Placed → ℕ → List Trade
unit_trades good current units bids end =
    flat_map (λ position. flat_map (λ bid. point_trades good current units bid 0 bid.points) (filter (λ bid. bid.position == position) bids)) (positions_below end)

-- ---- bid by bid

module _ (good current : ℕ) where
  -- a trade of so many units
  abbrev trade_of : ℕ → ℕ → Trade
  trade_of agent units = record { buyer = agent; seller = house; good = good; units = units; price = current }

  sold_first : (s : StandingPoint) (rest : List StandingPoint) (n : ℕ) → size_of s.point ≡ suc n → nat_le current s.point.price ≡ true →
      flight_trades good current (s ∷ rest) ≡ trade_of s.agent (suc n) ∷ flight_trades good current rest
  sold_first s rest n size dear =
      let is : is_sold current s ≡ true = ap (λ m. nat_lt 0 m && nat_le current s.point.price) size ∙ rw (lt-ltb 0 (suc n) (omega arith), dear) refl in
      ap (λ b. map (sale good current) (cond b (s ∷ filter (is_sold current) rest) (filter (is_sold current) rest))) is
      ∙ ap (λ m. trade_of s.agent m ∷ flight_trades good current rest) size

  unsold_first : (s : StandingPoint) (rest : List StandingPoint) → is_sold current s ≡ false → flight_trades good current (s ∷ rest) ≡ flight_trades good current rest
  unsold_first s rest is = ap (λ b. map (sale good current) (cond b (s ∷ filter (is_sold current) rest) (filter (is_sold current) rest))) is

  cheap : (n : ℕ) (s : StandingPoint) → size_of s.point ≡ suc n → nat_le current s.point.price ≡ false → is_sold current s ≡ false
  cheap n s size low = ap (λ m. nat_lt 0 m && nat_le current s.point.price) size ∙ rw (lt-ltb 0 (suc n) (omega arith), low) refl

-- the trades of a bid are those of its points that stand
point_trades_are : (good current : ℕ) (units : List BidUnit) (bid : Placed) (from : ℕ) (points : List Point) →
    point_trades good current units bid from points ≡ flight_trades good current (owned_by bid.agent (left_points units bid.agent bid.position from points))
point_trades_are good current units bid from [] = refl
point_trades_are good current units bid from (point ∷ points) =
    by_tests (nat_le current point.price) refl (common_units (point_units bid.agent bid.position from point) units) (point_trades_are good current units bid (from + size_of point) points)
  where
    rest : List Point
    rest = left_points units bid.agent bid.position (from + size_of point) points

    more : List Trade
    more = point_trades good current units bid (from + size_of point) points

    one : ℕ → StandingPoint
    one n = record { agent = bid.agent; point = record { units = signed_as point.units n; price = point.price } }

    by_tests : (b : Bool) → nat_le current point.price ≡ b → (n : ℕ) → more ≡ flight_trades good current (owned_by bid.agent rest) →
        cond (b && nat_lt 0 n) (trade_of good current bid.agent n ∷ more) more
        ≡ flight_trades good current (owned_by bid.agent (cond (n == 0) rest (record { units = signed_as point.units n; price = point.price } ∷ rest)))
    by_tests true k zero ih = ih
    by_tests true k (suc n) ih =
        rw (suc_not_zero n, lt-ltb 0 (suc n) (omega arith))
        (ap (λ ts. trade_of good current bid.agent (suc n) ∷ ts) ih ∙ sym (sold_first good current (one (suc n)) (owned_by bid.agent rest) n (signed_size point.units (suc n)) k))
    by_tests false k zero ih = ih
    by_tests false k (suc n) ih =
        rw (suc_not_zero n)
        (ih ∙ sym (unsold_first good current (one (suc n)) (owned_by bid.agent rest) (cheap good current n (one (suc n)) (signed_size point.units (suc n)) k)))

positions_are : (n : ℕ) → positions_below n ≡ range_with_len 0 n
positions_are zero = refl
positions_are (suc n) = ap (λ (ps : List ℕ). ps ++ n ∷ []) (positions_are n) ∙ sym (below_more n)

-- the trades of all bids are those of the points that stand, bid by bid
trades_are : (good current : ℕ) (units : List BidUnit) (bids : List Placed) (end : ℕ) →
    unit_trades good current units bids end ≡ flight_trades good current (flat_map (standing_of units) (by_position bids end))
trades_are good current units bids end =
    ap (flat_map (λ position. flat_map (λ (bid : Placed). point_trades good current units bid 0 bid.points) (filter (λ (bid : Placed). bid.position == position) bids))) (positions_are end)
    ∙ sym (flat_map-flat_map (λ (bid : Placed). point_trades good current units bid 0 bid.points) (λ (position : ℕ). filter (λ (bid : Placed). bid.position == position) bids) (range_with_len 0 end))
    ∙ flat_map_alike _ (λ (bid : Placed). flight_trades good current (standing_of units bid)) (by_position bids end) (λ bid. point_trades_are good current units bid 0 bid.points)
    ∙ sym (map-flat_map (sale good current) (λ (bid : Placed). filter (is_sold current) (standing_of units bid)) (by_position bids end))
    ∙ sym (ap (map (sale good current)) (filter-flat_map (is_sold current) (standing_of units) (by_position bids end)))

-- ---- a new bid

-- a bid of which all units are looked at is sold as its points say
whole_sold : (good current : ℕ) (units : List BidUnit) (agent position from : ℕ) (points : List Point) → AllAmong units (units_from agent position from points) →
    flight_trades good current (owned_by agent (left_points units agent position from points)) ≡ flight_trades good current (owned_by agent points)
whole_sold good current units agent position from [] all = refl
whole_sold good current units agent position from (point ∷ points) all =
    rw count (by_size (size_of point) refl (nat_le current point.price) refl (whole_sold good current units agent position (from + size_of point) points back))
  where
    P : BidUnit → Type 0
    P u = among u units ≡ true

    front : AllAmong units (point_units agent position from point)
    front = each-front P (point_units agent position from point) (units_from agent position (from + size_of point) points) all

    back : AllAmong units (units_from agent position (from + size_of point) points)
    back = each-back P (point_units agent position from point) (units_from agent position (from + size_of point) points) all

    count : common_units (point_units agent position from point) units ≡ size_of point
    count = count_all units (point_units agent position from point) front ∙ length-point_units agent position from point

    rest : List Point
    rest = left_points units agent position (from + size_of point) points

    this : StandingPoint
    this = record { agent = agent; point = point }

    one : ℕ → StandingPoint
    one n = record { agent = agent; point = record { units = signed_as point.units n; price = point.price } }

    by_size : (n : ℕ) → size_of point ≡ n → (b : Bool) → nat_le current point.price ≡ b → flight_trades good current (owned_by agent rest) ≡ flight_trades good current (owned_by agent points) →
        flight_trades good current (owned_by agent (cond (n == 0) rest (record { units = signed_as point.units n; price = point.price } ∷ rest))) ≡ flight_trades good current (owned_by agent (point ∷ points))
    by_size zero size b dear ih = ih ∙ sym (unsold_first good current this (owned_by agent points) (ap (λ m. nat_lt 0 m && nat_le current point.price) size))
    by_size (suc n) size true dear ih =
        rw (suc_not_zero n)
        (sold_first good current (one (suc n)) (owned_by agent rest) n (signed_size point.units (suc n)) dear
        ∙ ap (λ ts. trade_of good current agent (suc n) ∷ ts) ih
        ∙ sym (sold_first good current this (owned_by agent points) n size dear))
    by_size (suc n) size false low ih =
        rw (suc_not_zero n)
        (unsold_first good current (one (suc n)) (owned_by agent rest) (cheap good current n (one (suc n)) (signed_size point.units (suc n)) low)
        ∙ ih
        ∙ sym (unsold_first good current this (owned_by agent points) (cheap good current n this size low)))

trades-append : (good current : ℕ) (xs ys : List StandingPoint) → flight_trades good current (xs ++ ys) ≡ flight_trades good current xs ++ flight_trades good current ys
trades-append good current xs ys =
    ap (map (sale good current)) (filter-append (is_sold current) xs ys) ∙ map-append (sale good current) (filter (is_sold current) xs) (filter (is_sold current) ys)

bid_by_units : (rules : Rules) (good current : ℕ) (past : List Entry) (caller : ℕ) (points : List Point) →
    unit_trades good current (looked_at (stand rules past) (length past) caller (Bid points)) (bids_looked_at (placed_bids past) (length past) caller (Bid points)) (length past + 1)
    ≡ flight_trades good current (points_looked_at (standing_points rules past) caller (Bid points))
bid_by_units rules good current past caller points =
    ap (unit_trades good current units bids) (add-one (length past))
    ∙ trades_are good current units bids (suc (length past))
    ∙ ap (λ (order : List Placed). flight_trades good current (flat_map (standing_of units) order)) (looked_order caller new past refl)
    ∙ ap (flight_trades good current) (others_stand rules past caller points)
    ∙ trades-append good current others (owned_by caller (left_points units caller (length past) 0 points))
    ∙ ap (λ (more : List Trade). flight_trades good current others ++ more)
    (whole_sold good current units caller (length past) 0 points (all_among_right (units_of new) (filter (λ u. not (u.agent == caller)) (stand rules past)) (units_of new) (all_among_self (units_of new))))
    ∙ sym (trades-append good current others (owned_by caller points))
  where
    new : Placed
    new = record { agent = caller; position = length past; points = points }

    others : List StandingPoint
    others = filter (λ s. not (s.agent == caller)) (standing_points rules past)

    units : List BidUnit
    units = looked (stand rules past) new

    bids : List Placed
    bids = filter (of_others caller) (placed_bids past) ++ new ∷ []

-- ---- any call

other_by_units : (rules : Rules) (good current : ℕ) (past : List Entry) →
    unit_trades good current (stand rules past) (placed_bids past) (length past + 1) ≡ flight_trades good current (standing_points rules past)
other_by_units rules good current past =
    ap (unit_trades good current (stand rules past) (placed_bids past)) (add-one (length past))
    ∙ trades_are good current (stand rules past) (placed_bids past) (suc (length past))
    ∙ ap (λ (bids : List Placed). flight_trades good current (flat_map (standing_of (stand rules past)) bids)) (order_more past)

pub by_units : (rules : Rules) (good current : ℕ) (past : List Entry) (caller : ℕ) (call : Call) →
    unit_trades good current (looked_at (stand rules past) (length past) caller call) (bids_looked_at (placed_bids past) (length past) caller call) (length past + 1)
    ≡ flight_trades good current (points_looked_at (standing_points rules past) caller call)
by_units rules good current past caller (Bid points) = bid_by_units rules good current past caller points
by_units rules good current past caller Withdraw = other_by_units rules good current past
by_units rules good current past caller OwnCall = other_by_units rules good current past
by_units rules good current past caller (Update tick draw) = other_by_units rules good current past
by_units rules good current past caller Publish = other_by_units rules good current past
by_units rules good current past caller Close = other_by_units rules good current past
