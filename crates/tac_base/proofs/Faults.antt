-- What a list without a fault has.
use Rattle.std.proofs.Common.{◌≡◌, ℕ, ◌+◌, ◌<◌, ◌≤◌, ◌≢◌, List, [], ◌∷◌, ◌++◌, Option, Some, None, length, get_or, take, drop, refl, sym, ap, ◌∙◌, add-zero, arith, ℤ, pos, All, unsigned_abs, take-append-drop}
use Rattle.std.proofs.lemmas.Bool.Decides.{nat_tests}
use Rattle.std.proofs.lemmas.List.Sums.{sum_by-cons}
use Rattle.std.specs.List.{AllByRecursion}
use Rattle.std.proofs.lemmas.List.Elements.{All-from_recursion}
use Rattle.std.proofs.lemmas.List.{take_more}
use Rattle.std.specs.Option.{option_or}
use Rattle.tac_base.specs.declared.bids.Point.{Point}
use Rattle.tac_base.specs.declared.bids.BidFault.{BidFault}
use Rattle.tac_base.specs.Bids.{point_at, size_of, total_size, point_fault, first_fault, fault_of, left_fault}

-- what a point without a fault has, after `count` points with `used` units
pub record IsGood (count used : ℕ) (point : Point) : Type 0 where
  pub few : count ≢ 16
  pub some : size_of point ≢ 0
  pub cheap : point.price ≤ 10000
  pub dear : 1 ≤ point.price
  pub small : used + size_of point ≤ 16

pub good_point : (count used : ℕ) (point : Point) → point_fault count used point ≡ None → IsGood count used point
good_point count used point h = record {
  few = grind (arith, nat_tests);
  some = grind (arith, nat_tests);
  cheap = grind (arith, nat_tests);
  dear = grind (arith, nat_tests);
  small = grind (arith, nat_tests);
}

-- the two parts of a list without a fault
pub both_none : (a b : Option BidFault) → option_or a b ≡ None → (a ≡ None) × (b ≡ None)
both_none None b h = (refl, h)
both_none (Some fault) b h = cc

-- a list without a fault has at most 16 points
pub few_points : (count used : ℕ) (points : List Point) → first_fault count used points ≡ None → count ≤ 16 → count + length points ≤ 16
few_points count used [] h le = omega arith
few_points count used (point ∷ points) h le =
    let parts = both_none (point_fault count used point) (first_fault (count + 1) (used + size_of point) points) h in
    let good = good_point count used point parts.0 in
    let more : (count + 1) + length points ≤ 16 = few_points (count + 1) (used + size_of point) points parts.1 (omega (arith, good.few)) in
    omega (arith, more)

-- and at most 16 units
pub few_units : (count used : ℕ) (points : List Point) → first_fault count used points ≡ None → used ≤ 16 → used + total_size points ≤ 16
few_units count used [] h le = let sum : total_size [] ≡ 0 = refl in omega (arith, sum)
few_units count used (point ∷ points) h le =
    let parts = both_none (point_fault count used point) (first_fault (count + 1) (used + size_of point) points) h in
    let good = good_point count used point parts.0 in
    let more : (used + size_of point) + total_size points ≤ 16 = few_units (count + 1) (used + size_of point) points parts.1 good.small in
    omega (arith, more, sum_by-cons size_of point points)

pub bid_points : (points : List Point) → fault_of points ≡ None → length points ≤ 16
bid_points [] h = cc
bid_points (point ∷ points) h = let le : 0 + length (point ∷ points) ≤ 16 = few_points 0 0 (point ∷ points) h (omega arith) in omega (arith, le)

pub bid_units : (points : List Point) → fault_of points ≡ None → total_size points ≤ 16
bid_units [] h = cc
bid_units (point ∷ points) h = let le : 0 + total_size (point ∷ points) ≤ 16 = few_units 0 0 (point ∷ points) h (omega arith) in omega (arith, le)

-- the units of a list without a first fault
pub list_units : (points : List Point) → left_fault points ≡ None → total_size points ≤ 16
list_units points h = let le : 0 + total_size points ≤ 16 = few_units 0 0 points h (omega arith) in omega (arith, le)

-- an empty list aside, the first fault is the bid's
pub fault_is : (points : List Point) → 0 < length points → fault_of points ≡ first_fault 0 0 points
fault_is [] h = absurd (omega arith)
fault_is (point ∷ points) h = refl

-- a bid without a fault may stand
pub bid_left : (points : List Point) → fault_of points ≡ None → left_fault points ≡ None
bid_left [] h = absurd cc
bid_left (point ∷ points) h = h

-- what a list with no first fault has
pub list_points : (points : List Point) → first_fault 0 0 points ≡ None → length points ≤ 16
list_points points h = let le : 0 + length points ≤ 16 = few_points 0 0 points h (omega arith) in omega (arith, le)

cheap_points : (count used : ℕ) (points : List Point) → first_fault count used points ≡ None → AllByRecursion (λ (p : Point). p.price ≤ 10000) points
cheap_points count used [] h = tt
cheap_points count used (point ∷ points) h =
    let parts = both_none (point_fault count used point) (first_fault (count + 1) (used + size_of point) points) h in
    ((good_point count used point parts.0).cheap, cheap_points (count + 1) (used + size_of point) points parts.1)

-- no price is above 10000
pub bid_prices : (points : List Point) → fault_of points ≡ None → All (λ (p : Point). p.price ≤ 10000) points
bid_prices [] h = cc
bid_prices (point ∷ points) h = All-from_recursion _ (point ∷ points) (cheap_points 0 0 (point ∷ points) h)

pub full_points : (count used : ℕ) (points : List Point) → first_fault count used points ≡ None → AllByRecursion (λ (p : Point). size_of p ≢ 0) points
full_points count used [] h = tt
full_points count used (point ∷ points) h =
    let parts = both_none (point_fault count used point) (first_fault (count + 1) (used + size_of point) points) h in
    ((good_point count used point parts.0).some, full_points (count + 1) (used + size_of point) points parts.1)

-- no point is empty
pub bid_sizes : (points : List Point) → fault_of points ≡ None → All (λ (p : Point). size_of p ≢ 0) points
bid_sizes [] h = cc
bid_sizes (point ∷ points) h = All-from_recursion _ (point ∷ points) (full_points 0 0 (point ∷ points) h)

-- the first of two faults stays if the second changes
either_stays : (first rest other : Option BidFault) (fault : BidFault) → option_or first rest ≡ Some fault → (rest ≡ Some fault → other ≡ Some fault) → option_or first other ≡ Some fault
either_stays None rest other fault h more = more h
either_stays (Some found) rest other fault h more = h

-- a fault stays the first, whatever points follow
pub fault_stays : (count used : ℕ) (points more : List Point) (fault : BidFault) → first_fault count used points ≡ Some fault → first_fault count used (points ++ more) ≡ Some fault
fault_stays count used [] more fault h = absurd cc
fault_stays count used (point ∷ points) more fault h = either_stays (point_fault count used point) (first_fault (count + 1) (used + size_of point) points) (first_fault (count + 1) (used + size_of point) (points ++ more)) fault h (fault_stays (count + 1) (used + size_of point) points more fault)

-- after points without a fault the next ones are tested with their number and units
pub fault_after : (count used : ℕ) (points more : List Point) → first_fault count used points ≡ None → first_fault count used (points ++ more) ≡ first_fault (count + length points) (used + total_size points) more
fault_after count used [] more h = simp add-zero
fault_after count used (point ∷ points) more h =
    let rest = first_fault (count + 1) (used + size_of point) (points ++ more) in
    let parts = both_none (point_fault count used point) (first_fault (count + 1) (used + size_of point) points) h in
    let here : first_fault count used (point ∷ (points ++ more)) ≡ rest = ap (λ (o : Option BidFault). option_or o rest) parts.0 in
    let counts : (count + 1) + length points ≡ count + length (point ∷ points) = omega arith in
    let units : (used + size_of point) + total_size points ≡ used + total_size (point ∷ points) = omega (arith, sum_by-cons size_of point points) in
    here ∙ fault_after (count + 1) (used + size_of point) points more parts.1 ∙ ap (λ (n : ℕ). first_fault n ((used + size_of point) + total_size points) more) counts ∙ ap (λ (u : ℕ). first_fault (count + length (point ∷ points)) u more) units

or_none : (o : Option BidFault) → option_or o None ≡ o
or_none None = refl
or_none (Some fault) = refl

-- the fault of points with one more
pub next_fault : (points : List Point) (units : ℤ) (price count used size : ℕ) → left_fault points ≡ None → count ≡ length points → used ≡ total_size points → size ≡ unsigned_abs units
    → left_fault (points ++ point_at units price ∷ []) ≡ point_fault count used (point_at (pos size) price)
next_fault points units price count used size h len sum is =
    let point = point_at units price in
    let last : left_fault (points ++ point ∷ []) ≡ point_fault (0 + length points) (0 + total_size points) point = fault_after 0 0 points (point ∷ []) h ∙ or_none (point_fault (0 + length points) (0 + total_size points) point) in
    let counts : 0 + length points ≡ count = omega (arith, len) in
    let units_so_far : 0 + total_size points ≡ used = omega (arith, sum) in
    last ∙ ap (λ (n : ℕ). point_fault n (0 + total_size points) point) counts ∙ ap (λ (u : ℕ). point_fault count u point) units_so_far ∙ ap (λ (s : ℕ). point_fault count used (point_at (pos s) price)) (sym is)

-- a point that brings a fault is the first fault of the whole list
pub fault_found : (points : List Point) (i : ℕ) (d : Point) (fault : BidFault) → i < length points → left_fault (take i points ++ get_or points i d ∷ []) ≡ Some fault → fault_of points ≡ Some fault
fault_found points i d fault lt h =
    let front : take (i + 1) points ≡ take i points ++ get_or points i d ∷ [] = take_more points i d lt in
    let so_far : first_fault 0 0 (take (i + 1) points) ≡ Some fault = ap left_fault front ∙ h in
    let whole : first_fault 0 0 points ≡ Some fault = ap left_fault (sym (take-append-drop (i + 1) points)) ∙ fault_stays 0 0 (take (i + 1) points) (drop (i + 1) points) fault so_far in
    fault_is points (omega (arith, lt)) ∙ whole
