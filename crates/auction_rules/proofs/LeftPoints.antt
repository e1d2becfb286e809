-- What is left of a bid is within the limits of a bid.
use Rattle.std.proofs.Common.{◌≡◌, ℕ, zero, suc, ◌+◌, ◌≤◌, cond, List, [], ◌∷◌, refl, arith, None, ℤ, pos, negsuc, ◌==◌, false, unsigned_abs}
use Rattle.std.proofs.lemmas.Bool.Decides.{nat_tests}
use Rattle.std.proofs.lemmas.List.Sums.{count_by-le-length}
use Rattle.auction_rules.specs.{Point, size_of, point_fault, first_fault, fault_of, left_fault, point_units, among, common_units, signed_as, left_points}
use Rattle.tac_base.proofs.Faults.{IsGood, good_point, both_none}
use Rattle.auction_rules.specs.declared.units.BidUnit.{BidUnit}
use Rattle.auction_rules.proofs.Blocks.{length-point_units}

pub suc_not_zero : (n : ℕ) → (suc n == 0) ≡ false
suc_not_zero n = grind (arith, nat_tests)

pub signed_size : (z : ℤ) (n : ℕ) → unsigned_abs (signed_as z n) ≡ n
signed_size (pos m) n = refl
signed_size (negsuc m) zero = refl
signed_size (negsuc m) (suc n) = refl

-- a point within the limits has no fault
pub no_fault : (count used : ℕ) (point : Point) → IsGood count used point → point_fault count used point ≡ None
no_fault count used point good = grind (arith, nat_tests, good.few, good.some, good.cheap, good.dear, good.small)

-- no more units of a point stand than it has
pub few_common : (standing : List BidUnit) (agent position from : ℕ) (point : Point) → common_units (point_units agent position from point) standing ≤ size_of point
few_common standing agent position from point =
    omega (arith, count_by-le-length (λ (u : BidUnit). among u standing) (point_units agent position from point), length-point_units agent position from point)

left_within : (standing : List BidUnit) (agent position from count used count' used' : ℕ) (points : List Point) → count' ≤ count → used' ≤ used → count ≤ 16 →
    first_fault count used points ≡ None → first_fault count' used' (left_points standing agent position from points) ≡ None
left_within standing agent position from count used count' used' [] fewer smaller le h = refl
left_within standing agent position from count used count' used' (point ∷ points) fewer smaller le h =
    by_count (common_units (point_units agent position from point) standing) (few_common standing agent position from point)
    (λ c u few small. left_within standing agent position (from + size_of point) (count + 1) (used + size_of point) c u points few small (omega (arith, good.few)) parts.1)
  where
    parts : (point_fault count used point ≡ None) × (first_fault (count + 1) (used + size_of point) points ≡ None)
    parts = both_none (point_fault count used point) (first_fault (count + 1) (used + size_of point) points) h

    good : IsGood count used point
    good = good_point count used point parts.0

    rest : List Point
    rest = left_points standing agent position (from + size_of point) points

    by_count : (n : ℕ) → n ≤ size_of point → ((c u : ℕ) → c ≤ count + 1 → u ≤ used + size_of point → first_fault c u rest ≡ None) →
        first_fault count' used' (cond (n == 0) rest (record { units = signed_as point.units n; price = point.price } ∷ rest)) ≡ None
    by_count zero few next = next count' used' (omega arith) (omega arith)
    by_count (suc n) few next =
        let one : Point = record { units = signed_as point.units (suc n); price = point.price } in
        let size : size_of one ≡ suc n = signed_size point.units (suc n) in
        let here : IsGood count' used' one = record {
          few = λ is. omega (arith, good.few, is);
          some = λ is. omega (arith, size, is);
          cheap = good.cheap;
          dear = good.dear;
          small = omega (arith, good.small, size);
        } in
        rw (suc_not_zero n, no_fault count' used' one here) (next (count' + 1) (used' + size_of one) (omega arith) (omega (arith, size)))

-- what is left of a bid has no fault
pub left_no_fault : (standing : List BidUnit) (agent position : ℕ) (points : List Point) → fault_of points ≡ None → left_fault (left_points standing agent position 0 points) ≡ None
left_no_fault standing agent position [] h = refl
left_no_fault standing agent position (point ∷ points) h = left_within standing agent position 0 0 0 0 0 (point ∷ points) (omega arith) (omega arith) (omega arith) h
