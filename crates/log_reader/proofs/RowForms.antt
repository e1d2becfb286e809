-- Lines of a keyword and numbers: what is read is the one spelling of its numbers, and is read again.
use Rattle.std.proofs.Common.{◌≡◌, ℕ, ◌≤◌, true, ◌&&◌, leb, List, [], ◌∷◌, Some, Result, Ok, Err, length, map, sym, ap, ◌∙◌, arith, ℤ, pos, decimal, ◌-◌, ◌+◌, le-leb, leb-true}
use Rattle.std.specs.Prelude.{⊤}
use Rattle.std.specs.List.{list_all}
use Rattle.std.proofs.lemmas.Option.{cond_some, same_Some}
use Rattle.std.proofs.lemmas.Fmt.{decimal_digit}
use Rattle.tac_base.proofs.NumeralLaws.{both_true}
use Rattle.tac_base.proofs.Signed.{Lacks}
use Rattle.log_reader.specs.{Reason, Column, within, is_in, all_in, row, row_text, digit_of, numbers_by, read_numbers, number_at}
use Rattle.text_forms.proofs.Columns.{IsWithin, is_within}
use Rattle.text_forms.proofs.RowLaws.{IsRow, is_column, row_is, row_again}

-- ---- one digit

pub digit_is : (most : ℕ) (word : List ℕ) (n : ℕ) → most ≤ 9 → digit_of most word ≡ Some n → (word ≡ decimal n) × (n ≤ most)
digit_is most [] n small h = absurd cc
digit_is most (digit ∷ []) n small h =
    let c = cond_some (leb 48 digit && leb digit (48 + most)) (digit - 48) n h in
    let both = both_true (leb 48 digit) (leb digit (48 + most)) c.0 in
    let low = leb-true 48 digit both.0 in
    let high = leb-true digit (48 + most) both.1 in
    let value = c.1 in
    let few : n ≤ most = omega (arith, low, high, value) in
    let is : digit ≡ 48 + n = omega (arith, low, value) in
    (ap (λ (d : ℕ). d ∷ []) is ∙ sym (decimal_digit n (omega (arith, few, small))), few)
digit_is most (digit ∷ other ∷ more) n small h = absurd cc

pub digit_again : (most n : ℕ) → most ≤ 9 → n ≤ most → digit_of most (decimal n) ≡ Some n
digit_again most n small le =
    let low : leb 48 (48 + n) ≡ true = le-leb 48 (48 + n) (omega arith) in
    let high : leb (48 + n) (48 + most) ≡ true = le-leb (48 + n) (48 + most) (omega (arith, le)) in
    let value : (48 + n) - 48 ≡ n = omega arith in
    ap (digit_of most) (decimal_digit n (omega (arith, le, small))) ∙ rw (low, high) (ap (λ (m : ℕ). Some m) value)

-- ---- rows

numbers_ok : (read : Result (List ℤ) Reason) (numbers : List ℤ) → numbers_by read ≡ Some numbers → read ≡ Ok numbers
numbers_ok (Err reason) numbers h = absurd cc
numbers_ok (Ok read) numbers h = ap (λ (ns : List ℤ). Ok ns) (same_Some read numbers h)

pub numbers_is : (keyword : List ℕ) (columns : List Column) (line : List ℕ) (numbers : List ℤ) → read_numbers keyword columns line ≡ Some numbers → IsRow keyword columns line numbers
numbers_is keyword columns line numbers h = row_is keyword columns line numbers (numbers_ok (row keyword columns line) numbers h)

pub numbers_again : (keyword : List ℕ) (columns : List Column) (numbers : List ℤ) → Lacks 32 keyword → list_all is_column columns ≡ true → length numbers ≡ length columns → all_in columns numbers ≡ true →
    read_numbers keyword columns (row_text keyword numbers) ≡ Some numbers
numbers_again keyword columns numbers lacks are count range = ap numbers_by (row_again keyword columns numbers lacks are count range)

-- a number in each of these ranges
abbrev pub Within : List (ℕ × ℕ) → List ℤ → Type 0
Within [] [] = ⊤
Within [] (number ∷ numbers) = ⊥
Within (range ∷ ranges) [] = ⊥
Within (range ∷ ranges) (number ∷ numbers) = IsWithin range.0 range.1 number × Within ranges numbers

abbrev pub columns_of : List (ℕ × ℕ) → List Column
columns_of ranges = map (λ range. within range.0 range.1) ranges

pub each_within : (ranges : List (ℕ × ℕ)) (numbers : List ℤ) → length numbers ≡ length ranges → all_in (columns_of ranges) numbers ≡ true → Within ranges numbers
each_within [] [] count h = tt
each_within [] (number ∷ numbers) count h = absurd (omega (arith, count))
each_within (range ∷ ranges) [] count h = absurd (omega (arith, count))
each_within (range ∷ ranges) (number ∷ numbers) count h =
    let both = both_true (is_in (within range.0 range.1) number) (all_in (columns_of ranges) numbers) h in
    (is_within range.0 range.1 number both.0, each_within ranges numbers (omega (arith, count)) both.1)

-- what one number is, and what two are
pub one_number : (low high : ℕ) (numbers : List ℤ) → Within ((low, high) ∷ []) numbers → (numbers ≡ pos (number_at numbers 0) ∷ []) × (number_at numbers 0 ≤ high)
one_number low high [] h = absurd h
one_number low high (x ∷ []) h = (ap (λ (z : ℤ). z ∷ []) h.0.same, h.0.most)
one_number low high (x ∷ y ∷ more) h = absurd h.1

pub record AreTwo (low high most : ℕ) (numbers : List ℤ) : Type 0 where
  pub whole : numbers ≡ pos (number_at numbers 0) ∷ pos (number_at numbers 1) ∷ []
  pub least : low ≤ number_at numbers 0
  pub first : number_at numbers 0 ≤ high
  pub second : number_at numbers 1 ≤ most

pub two_numbers : (low high least most : ℕ) (numbers : List ℤ) → Within ((low, high) ∷ (least, most) ∷ []) numbers → AreTwo low high most numbers
two_numbers low high least most [] h = absurd h
two_numbers low high least most (x ∷ []) h = absurd h.1
two_numbers low high least most (x ∷ y ∷ []) h = record { whole = λ i. h.0.same i ∷ h.1.0.same i ∷ []; least = h.0.least; first = h.0.most; second = h.1.0.most }
two_numbers low high least most (x ∷ y ∷ z ∷ more) h = absurd h.1.1
