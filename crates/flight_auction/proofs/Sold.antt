-- What a sale leaves of a bid's points, and its trades.
use Rattle.std.proofs.Common.{◌≡◌, ℕ, zero, suc, ◌+◌, Bool, true, false, cond, List, [], ◌∷◌, refl, sym, ap, ◌∙◌, not, ◌&&◌, ◌==◌, nat_le, filter, if◌then◌else◌, flat_map}
use Rattle.std.proofs.lemmas.List.Sums.{sum_by-cons}
use Rattle.flight_auction.specs.{Point, size_of, buys_of, Placed, BidUnit, point_units, units_from, units_of, among, common_units, signed_as, left_points, StandingPoint, owned_by, standing_of, reaches, unsold}
use Rattle.auction_rules.proofs.Standing.{Each, each-front, each-back, each-block, each-both}
use Rattle.auction_rules.proofs.LeftPoints.{suc_not_zero}
use Rattle.auction_rules.proofs.Lists.{filter-map, filter-flat_map, and-true}

-- ---- points by their units

-- units that are among the others alike are counted alike
count_same : (xs ys us : List BidUnit) → Each (λ (u : BidUnit). among u ys ≡ among u xs) us → common_units us ys ≡ common_units us xs
count_same xs ys [] h = refl
count_same xs ys (u ∷ us) h =
    sum_by-cons (λ (v : BidUnit). cond (among v ys) 1 0) u us ∙ rw (h.0, count_same xs ys us h.1) (sym (sum_by-cons (λ (v : BidUnit). cond (among v xs) 1 0) u us))

count_cut : (keeps : Bool) (xs ys us : List BidUnit) → Each (λ (u : BidUnit). among u ys ≡ (among u xs && keeps)) us → common_units us ys ≡ (if keeps then common_units us xs else 0)
count_cut true xs ys us h = count_same xs ys us (each-both _ _ (λ (u : BidUnit). among u ys ≡ among u xs) us (λ u k _. k ∙ and-true (among u xs)) h h)
count_cut false xs ys [] h = refl
count_cut false xs ys (u ∷ us) h =
    sum_by-cons (λ (v : BidUnit). cond (among v ys) 1 0) u us ∙ rw (h.0, count_cut false xs ys us h.1) (none (among u xs))
  where
    none : (b : Bool) → cond (b && false) 1 0 + 0 ≡ 0
    none true = refl
    none false = refl

-- the units of a point have its price
each_priced : (agent position from : ℕ) (point : Point) → Each (λ (u : BidUnit). u.price ≡ point.price) (point_units agent position from point)
each_priced agent position from point =
    each-block (λ (u : BidUnit). u.price ≡ point.price) (record { agent = agent; buys = buys_of point.units; price = point.price; position = position; index = from }) (size_of point) (λ i. refl)

-- whether a point stays unsold at a price
abbrev pub stays : ℕ → Point → Bool
stays current point = not (nat_le current point.price)

-- the points of which each unit stands that stood before
pub left_same : (xs ys : List BidUnit) (agent position from : ℕ) (points : List Point) → Each (λ (u : BidUnit). among u ys ≡ among u xs) (units_from agent position from points) →
    left_points ys agent position from points ≡ left_points xs agent position from points
left_same xs ys agent position from [] h = refl
left_same xs ys agent position from (point ∷ points) h =
    let P : BidUnit → Type 0 = λ u. among u ys ≡ among u xs in
    let here = count_same xs ys (point_units agent position from point) (each-front P (point_units agent position from point) (units_from agent position (from + size_of point) points) h) in
    let more = left_same xs ys agent position (from + size_of point) points (each-back P (point_units agent position from point) (units_from agent position (from + size_of point) points) h) in
    rw (here, more) refl

-- if exactly those units stay that are cheaper than the price, so do the points
left_cut : (current : ℕ) (xs ys : List BidUnit) (agent position from : ℕ) (points : List Point) →
    Each (λ (u : BidUnit). among u ys ≡ (among u xs && not (nat_le current u.price))) (units_from agent position from points) →
    left_points ys agent position from points ≡ filter (stays current) (left_points xs agent position from points)
left_cut current xs ys agent position from [] h = refl
left_cut current xs ys agent position from (point ∷ points) h =
    let P : BidUnit → Type 0 = λ u. among u ys ≡ (among u xs && not (nat_le current u.price)) in
    let front = each-front P (point_units agent position from point) (units_from agent position (from + size_of point) points) h in
    let one = each-both P (λ (u : BidUnit). u.price ≡ point.price) (λ (u : BidUnit). among u ys ≡ (among u xs && stays current point)) (point_units agent position from point)
    (λ u cut priced. cut ∙ rw priced refl) front (each_priced agent position from point) in
    let count = count_cut (stays current point) xs ys (point_units agent position from point) one in
    let more = left_cut current xs ys agent position (from + size_of point) points (each-back P (point_units agent position from point) (units_from agent position (from + size_of point) points) h) in
    rw (count, more) (by_test (stays current point) refl (common_units (point_units agent position from point) xs))
  where
    rest : List Point
    rest = left_points xs agent position (from + size_of point) points

    by_count : (n : ℕ) (b : Bool) → stays current point ≡ b → cond b (record { units = signed_as point.units n; price = point.price } ∷ filter (stays current) rest) (filter (stays current) rest)
        ≡ filter (stays current) (record { units = signed_as point.units n; price = point.price } ∷ rest)
    by_count n b k = rw k refl

    by_test : (b : Bool) → stays current point ≡ b → (n : ℕ) →
        cond (cond b n 0 == 0) (filter (stays current) rest) (record { units = signed_as point.units (cond b n 0); price = point.price } ∷ filter (stays current) rest)
        ≡ filter (stays current) (cond (n == 0) rest (record { units = signed_as point.units n; price = point.price } ∷ rest))
    by_test true k zero = refl
    by_test true k (suc n) = rw (suc_not_zero n) (by_count (suc n) true k)
    by_test false k zero = refl
    by_test false k (suc n) = rw (suc_not_zero n) (by_count (suc n) false k)

-- ---- all bids

unsold_owned : (current agent : ℕ) (points : List Point) → unsold current (owned_by agent points) ≡ owned_by agent (filter (stays current) points)
unsold_owned current agent points = filter-map (λ (s : StandingPoint). not (reaches current s)) (λ (p : Point). record { agent = agent; point = p }) points

-- if exactly those units stay that are cheaper than the price, the unsold points stand
pub standing_cut : (current : ℕ) (xs ys : List BidUnit) (bid : Placed) → Each (λ (u : BidUnit). among u ys ≡ (among u xs && not (nat_le current u.price))) (units_of bid) →
    standing_of ys bid ≡ unsold current (standing_of xs bid)
standing_cut current xs ys bid h =
    ap (owned_by bid.agent) (left_cut current xs ys bid.agent bid.position 0 bid.points h) ∙ sym (unsold_owned current bid.agent (left_points xs bid.agent bid.position 0 bid.points))

pub standing_same : (xs ys : List BidUnit) (bid : Placed) → Each (λ (u : BidUnit). among u ys ≡ among u xs) (units_of bid) → standing_of ys bid ≡ standing_of xs bid
standing_same xs ys bid h = ap (owned_by bid.agent) (left_same xs ys bid.agent bid.position 0 bid.points h)

-- the unsold points of all bids
pub unsold_all : (current : ℕ) (units : List BidUnit) (bids : List Placed) → unsold current (flat_map (standing_of units) bids) ≡ flat_map (λ bid. unsold current (standing_of units bid)) bids
unsold_all current units bids = filter-flat_map (λ (s : StandingPoint). not (reaches current s)) (standing_of units) bids
