-- The ranges of a flight's drift and change, in which no sum of them overflows.
use Rattle.std.proofs.Common.{◌≡◌, ℕ, ◌+◌, ◌%◌, ◌≤◌, ℤ, pos, negsuc, ◌≤ℤ◌, ◌+ℤ◌, ◌-ℤ◌, ◌*ℤ◌, unsigned_abs, neg_ℤ, refl, ap, ◌∙◌, arith, w32, to_z, of_z}
use Rattle.std.proofs.lemmas.Int.{ints, to_z-of_z, to_z_pos, unsigned_abs-mul}
use Rattle.std.proofs.lemmas.Bool.Decides.{nat_tests}
use Rattle.std.proofs.lemmas.Nat.{mul-le}
use Rattle.std.specs.Int.{int_div_euclid, int_max, int_min}
use Rattle.auction_rules.specs.FlightRule.{drift, change, clamped}

-- a number is within a distance of 0
abbrev pub Within : ℕ → ℤ → Type 0
Within n z = unsigned_abs z ≤ n

-- and then its 32 bits are it
pub kept : (z : ℤ) → Within 100000 z → to_z w32 (of_z w32 z) ≡ z
kept (pos n) h = to_z-of_z w32 (pos n) (record { sfits = omega arith })
kept (negsuc n) h = to_z-of_z w32 (negsuc n) (record { sfits = omega arith })

-- from bounds with signs
pub within : (n : ℕ) (z : ℤ) → neg_ℤ (pos n) ≤ℤ z → z ≤ℤ pos n → Within n z
within n (pos k) h g = omega (arith, ints)
within n (negsuc k) h g = omega (arith, ints)

product_within : (tick : ℕ) (slope : ℤ) → tick ≤ 54 → Within 20 slope → Within 1080 (pos tick *ℤ slope)
product_within tick slope h k = rw (unsigned_abs-mul (pos tick) slope) (mul-le tick (unsigned_abs slope) 54 20 h k)

quotient_between : (z : ℤ) → Within 1080 z → (negsuc 19 ≤ℤ int_div_euclid z (pos 54)) × (int_div_euclid z (pos 54) ≤ℤ pos 20)
quotient_between (pos n) h = (omega (arith, ints), omega (arith, ints))
quotient_between (negsuc n) h = (omega (arith, ints), omega (arith, ints))

-- the drift lies between -10 and 30
pub drift_between : (bound : ℤ) (tick : ℕ) → negsuc 9 ≤ℤ bound → bound ≤ℤ pos 30 → tick ≤ 54 → (negsuc 9 ≤ℤ drift bound tick) × (drift bound tick ≤ℤ pos 30)
drift_between bound tick from to le =
    let slope : Within 20 (bound -ℤ pos 10) = within 20 (bound -ℤ pos 10) (omega (arith, ints)) (omega (arith, ints)) in
    let parts = quotient_between (pos tick *ℤ (bound -ℤ pos 10)) (product_within tick (bound -ℤ pos 10) le slope) in
    (omega (arith, ints, parts.0), omega (arith, ints, parts.1))

-- the last steps of the drift in 32 bits
quotient_steps : (product quotient : ℤ) → Within 1080 product → quotient ≡ int_div_euclid product (pos 54) →
    to_z w32 (of_z w32 (pos 10 +ℤ to_z w32 (of_z w32 quotient))) ≡ pos 10 +ℤ int_div_euclid product (pos 54)
quotient_steps product quotient h is =
    let parts = quotient_between product h in
    let few : Within 30 quotient = within 30 quotient (omega (arith, ints, parts.0, is)) (omega (arith, ints, parts.1, is)) in
    let sum : Within 30 (pos 10 +ℤ quotient) = within 30 (pos 10 +ℤ quotient) (omega (arith, ints, parts.0, is)) (omega (arith, ints, parts.1, is)) in
    let few_kept : to_z w32 (of_z w32 quotient) ≡ quotient = kept quotient (omega (arith, few)) in
    let sum_kept : to_z w32 (of_z w32 (pos 10 +ℤ quotient)) ≡ pos 10 +ℤ quotient = kept (pos 10 +ℤ quotient) (omega (arith, sum)) in
    rw few_kept sum_kept ∙ ap (λ (z : ℤ). pos 10 +ℤ z) is

-- the steps of the drift in 32 bits
pub drift_steps : (bound wide times quotient : ℤ) (tick : ℕ) → negsuc 9 ≤ℤ bound → bound ≤ℤ pos 30 → tick ≤ 54 →
    times ≡ pos tick → wide ≡ bound → quotient ≡ int_div_euclid (to_z w32 (of_z w32 (to_z w32 (of_z w32 times) *ℤ to_z w32 (of_z w32 (to_z w32 (of_z w32 wide) -ℤ pos 10))))) (pos 54) →
    to_z w32 (of_z w32 (pos 10 +ℤ to_z w32 (of_z w32 quotient))) ≡ drift bound tick
drift_steps bound wide times quotient tick from to le times_is wide_is quotient_is =
    let slope : Within 20 (bound -ℤ pos 10) = within 20 (bound -ℤ pos 10) (omega (arith, ints)) (omega (arith, ints)) in
    let product : Within 1080 (pos tick *ℤ (bound -ℤ pos 10)) = product_within tick (bound -ℤ pos 10) le slope in
    let one : to_z w32 (of_z w32 (bound -ℤ pos 10)) ≡ bound -ℤ pos 10 = kept _ (omega (arith, slope)) in
    let two : to_z w32 (of_z w32 (pos tick *ℤ (bound -ℤ pos 10))) ≡ pos tick *ℤ (bound -ℤ pos 10) = kept _ (omega (arith, product)) in
    let wide_kept : to_z w32 (of_z w32 bound) ≡ bound = kept bound (omega (arith, within 30 bound (omega (arith, ints)) (omega (arith, ints)))) in
    let first : to_z w32 (of_z w32 (pos tick)) ≡ pos tick = kept (pos tick) (omega arith) in
    quotient_steps (pos tick *ℤ (bound -ℤ pos 10)) quotient product (quotient_is ∙ rw (times_is, wide_is, wide_kept, first, one, two) refl)

-- a draw's number of the interval, in 32 bits
pub change_steps : (low high : ℤ) (draw size : ℕ) → negsuc 9 ≤ℤ low → low ≤ℤ pos 0 → pos 0 ≤ℤ high → high ≤ℤ pos 30 →
    size ≡ unsigned_abs (to_z w32 (of_z w32 (to_z w32 (of_z w32 high) -ℤ to_z w32 (of_z w32 low)))) →
    to_z w32 (of_z w32 (to_z w32 (of_z w32 low) +ℤ to_z w32 (draw % (size + 1)))) ≡ change low high draw
change_steps low high draw size low_from low_to high_from high_to size_is =
    let low_is : to_z w32 (of_z w32 low) ≡ low = kept low (omega (arith, within 10 low (omega (arith, ints)) (omega (arith, ints)))) in
    let high_is : to_z w32 (of_z w32 high) ≡ high = kept high (omega (arith, within 30 high (omega (arith, ints)) (omega (arith, ints)))) in
    let far : Within 40 (high -ℤ low) = within 40 (high -ℤ low) (omega (arith, ints)) (omega (arith, ints)) in
    let far_is : to_z w32 (of_z w32 (high -ℤ low)) ≡ high -ℤ low = kept (high -ℤ low) (omega (arith, far)) in
    let is : size ≡ unsigned_abs (high -ℤ low) = size_is ∙ rw (low_is, high_is, far_is) refl in
    let few : draw % (size + 1) ≤ 40 = omega (arith, is, far) in
    let drawn : to_z w32 (draw % (size + 1)) ≡ pos (draw % (size + 1)) = to_z_pos w32 (draw % (size + 1)) (omega (arith, few)) in
    let sum : to_z w32 (of_z w32 (low +ℤ pos (draw % (size + 1)))) ≡ low +ℤ pos (draw % (size + 1)) = kept (low +ℤ pos (draw % (size + 1))) (omega (arith, within 50 (low +ℤ pos (draw % (size + 1))) (omega (arith, ints)) (omega (arith, ints)))) in
    rw (low_is, drawn, sum, is) refl

clamped_within : (z : ℤ) → Within 800 (int_max (pos 150) (int_min z (pos 800)))
clamped_within (pos n) = grind (arith, nat_tests)
clamped_within (negsuc n) = omega arith

clamped_is : (z : ℤ) → unsigned_abs (int_max (pos 150) (int_min z (pos 800))) ≡ clamped z
clamped_is (pos n) = grind (arith, nat_tests)
clamped_is (negsuc n) = refl

-- a clamped sum, in 32 bits
pub sum_steps : (price moved sum : ℤ) → Within 800 price → Within 30 moved →
    sum ≡ int_max (pos 150) (int_min (to_z w32 (of_z w32 (to_z w32 (of_z w32 price) +ℤ to_z w32 (of_z w32 moved)))) (pos 800)) →
    unsigned_abs (to_z w32 (of_z w32 sum)) ≡ clamped (price +ℤ moved)
sum_steps price moved sum h k sum_is =
    let price_kept : to_z w32 (of_z w32 price) ≡ price = kept price (omega (arith, h)) in
    let moved_kept : to_z w32 (of_z w32 moved) ≡ moved = kept moved (omega (arith, k)) in
    let both : Within 830 (price +ℤ moved) = within 830 (price +ℤ moved) (omega (arith, ints)) (omega (arith, ints)) in
    let both_kept : to_z w32 (of_z w32 (price +ℤ moved)) ≡ price +ℤ moved = kept (price +ℤ moved) (omega (arith, both)) in
    let is : sum ≡ int_max (pos 150) (int_min (price +ℤ moved) (pos 800)) = sum_is ∙ rw (price_kept, moved_kept, both_kept) refl in
    let few : Within 800 sum = rw is (clamped_within (price +ℤ moved)) in
    ap unsigned_abs (kept sum (omega (arith, few))) ∙ ap unsigned_abs is ∙ clamped_is (price +ℤ moved)
