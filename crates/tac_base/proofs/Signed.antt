-- Signed numerals, and the bytes that no numeral has.
use Rattle.std.proofs.Common.{◌≡◌, ℕ, zero, suc, ◌^◌, ◌<◌, ◌≤◌, Bool, true, false, cond, eqb, List, [], ◌∷◌, Option, Some, None, length, refl, ap, arith, ℤ, pos, negsuc, decimal, option_and_then, option_map, unsigned_abs, eqb-true}
use Rattle.std.specs.Fmt.{signed_decimal}
use Rattle.std.specs.Str.{all_ascii_digits}
use Rattle.std.specs.List.{AllByRecursion}
use Rattle.std.proofs.lemmas.Bool.Decides.{nat_tests}
use Rattle.tac_base.specs.Numerals.{numeral, signed_numeral, opposite}
use Rattle.tac_base.proofs.NumeralLaws.{both_true, numeral_is, numeral_again, numeral_limit, decimal_digits, numeral_digits}

opposite_is : (o : Option ℕ) (z : ℤ) → option_and_then opposite o ≡ Some z → (n : ℕ) × (o ≡ Some (suc n)) × (z ≡ negsuc n)
opposite_is None z h = absurd cc
opposite_is (Some zero) z h = absurd cc
opposite_is (Some (suc n)) z h = (n, refl, cc)

pub positive_is : (o : Option ℕ) (z : ℤ) → option_map pos o ≡ Some z → (n : ℕ) × (o ≡ Some n) × (z ≡ pos n)
positive_is None z h = absurd cc
positive_is (Some n) z h = (n, refl, cc)

-- the form of a word with a number of at most this many digits
pub record IsSigned (digits : ℕ) (word : List ℕ) (z : ℤ) : Type 0 where
  pub spelled : word ≡ signed_decimal z
  pub short : length (decimal (unsigned_abs z)) ≤ digits

signed_by : (digits : ℕ) (first : ℕ) (rest : List ℕ) (z : ℤ) (b : Bool) → unsigned_abs z < 2 ^ 64 → eqb first 45 ≡ b → cond b (option_and_then opposite (numeral digits rest)) (option_map pos (numeral digits (first ∷ rest))) ≡ Some z → IsSigned digits (first ∷ rest) z
signed_by digits first rest z true small e h =
    let o = opposite_is (numeral digits rest) z h in
    let size : unsigned_abs z ≡ suc o.0 = ap unsigned_abs o.2 in
    let is = numeral_is digits rest (suc o.0) o.1 (omega (arith, small, size)) in
    let minus : first ≡ 45 = eqb-true _ _ e in
    record {
      spelled = rw (o.2, minus) (ap (λ (bytes : List ℕ). 45 ∷ bytes) is.0);
      short = rw (size, ← is.0) is.1;
    }
signed_by digits first rest z false small e h =
    let o = positive_is (numeral digits (first ∷ rest)) z h in
    let size : unsigned_abs z ≡ o.0 = ap unsigned_abs o.2 in
    let is = numeral_is digits (first ∷ rest) o.0 o.1 (omega (arith, small, size)) in
    record {
      spelled = rw o.2 is.0;
      short = rw (size, ← is.0) is.1;
    }

-- a word that is a signed numeral is its number, printed
pub signed_spelled : (digits : ℕ) (word : List ℕ) (z : ℤ) → unsigned_abs z < 2 ^ 64 → signed_numeral digits word ≡ Some z → IsSigned digits word z
unfolding signed_numeral
signed_spelled digits [] z small h = absurd cc
signed_spelled digits (first ∷ rest) z small h = signed_by digits first rest z (eqb first 45) small refl h

limit_by : (digits limit : ℕ) (first : ℕ) (rest : List ℕ) (z : ℤ) (b : Bool) → digits ≤ limit → cond b (option_and_then opposite (numeral digits rest)) (option_map pos (numeral digits (first ∷ rest))) ≡ Some z → unsigned_abs z < 10 ^ limit
limit_by digits limit first rest z true few h = let o = opposite_is (numeral digits rest) z h in rw o.2 (numeral_limit digits limit rest (suc o.0) few o.1)
limit_by digits limit first rest z false few h = let o = positive_is (numeral digits (first ∷ rest)) z h in rw o.2 (numeral_limit digits limit (first ∷ rest) o.0 few o.1)

-- a signed numeral of at most this many digits has a number of this many
pub signed_limit : (digits limit : ℕ) (word : List ℕ) (z : ℤ) → digits ≤ limit → signed_numeral digits word ≡ Some z → unsigned_abs z < 10 ^ limit
unfolding signed_numeral
signed_limit digits limit [] z few h = absurd cc
signed_limit digits limit (first ∷ rest) z few h = limit_by digits limit first rest z (eqb first 45) few h

pub signed_is : (digits : ℕ) (word : List ℕ) (z : ℤ) → digits ≤ 18 → signed_numeral digits word ≡ Some z → word ≡ signed_decimal z
signed_is digits word z few h = let small : unsigned_abs z < 10 ^ 18 = signed_limit digits 18 word z few h in (signed_spelled digits word z (omega (arith, small)) h).spelled

-- a numeral is a signed numeral
pub signed_from : (digits : ℕ) (word : List ℕ) (n : ℕ) → numeral digits word ≡ Some n → signed_numeral digits word ≡ Some (pos n)
unfolding signed_numeral
signed_from digits [] n h = absurd (let d = numeral_digits digits [] n h in let some = d.some in omega arith)
signed_from digits (first ∷ rest) n h =
    let d = numeral_digits digits (first ∷ rest) n h in
    let digit = (both_true _ (all_ascii_digits rest) d.digits).0 in
    let test : eqb first 45 ≡ false = grind (arith, nat_tests, digit) in
    rw (test, h) refl

-- a number that is printed is a signed numeral again
pub signed_again : (digits : ℕ) (z : ℤ) → unsigned_abs z < 2 ^ 64 → length (decimal (unsigned_abs z)) ≤ digits → signed_numeral digits (signed_decimal z) ≡ Some z
unfolding signed_numeral
signed_again digits (pos n) lt few = signed_from digits (decimal n) n (numeral_again digits n lt few)
signed_again digits (negsuc n) lt few = rw (numeral_again digits (suc n) lt few) refl

-- ---- bytes that a word lacks

abbrev pub Lacks : ℕ → List ℕ → Type 0
Lacks byte word = AllByRecursion (λ b. eqb b byte ≡ false) word

pub digits_lack : (byte : ℕ) (word : List ℕ) → byte < 48 → all_ascii_digits word ≡ true → Lacks byte word
digits_lack byte [] lt h = tt
digits_lack byte (first ∷ rest) lt h =
    let both = both_true _ (all_ascii_digits rest) h in
    let digit = both.0 in
    (grind (arith, nat_tests, digit), digits_lack byte rest lt both.1)

pub decimal_lacks : (byte n : ℕ) → byte < 48 → n < 2 ^ 64 → Lacks byte (decimal n)
decimal_lacks byte n lt small = digits_lack byte (decimal n) lt (decimal_digits n small)

pub signed_lacks : (byte : ℕ) (z : ℤ) → byte < 45 → unsigned_abs z < 2 ^ 64 → Lacks byte (signed_decimal z)
signed_lacks byte (pos n) lt small = decimal_lacks byte n (omega (arith, lt)) small
signed_lacks byte (negsuc n) lt small = (grind (arith, nat_tests, lt), decimal_lacks byte (suc n) (omega (arith, lt)) small)
