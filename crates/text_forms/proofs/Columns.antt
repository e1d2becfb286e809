-- Numbers in the ranges of their columns.
use Rattle.std.proofs.Common.{◌≡◌, ℕ, zero, suc, ◌≤◌, Bool, true, ◌&&◌, List, [], ◌∷◌, ℤ, pos, negsuc, ◌≤ℤ◌, length, map, refl, sym, ap, ◌∙◌, arith, int_le, replicate, unsigned_abs}
use Rattle.std.specs.List.{list_all}
use Rattle.std.proofs.lemmas.Int.{ints}
use Rattle.std.proofs.lemmas.List.{length-map}
use Rattle.std.proofs.lemmas.List.Elements.{All-nil, All-cons, All-head, All-tail}
use Rattle.tac_base.proofs.NumeralLaws.{both_true}
use Rattle.text_forms.specs.declared.rows.Column.{Column}
use Rattle.text_forms.specs.Rows.{within, is_in, all_in, IsBetween, AllBetween}

-- a number that is in its column
pub record IsIn (column : Column) (number : ℤ) : Type 0 where
  pub low : column.low ≤ℤ number
  pub high : number ≤ℤ column.high

pub passes : (a b : ℤ) → int_le a b ≡ true → a ≤ℤ b
passes a b h = grind (arith, ints)

pub in_column : (column : Column) (number : ℤ) → is_in column number ≡ true → IsIn column number
in_column column number h =
    let both = both_true (int_le column.low number) (int_le number column.high) h in
    record { low = passes column.low number both.0; high = passes number column.high both.1 }

pub in_from : (column : Column) (number : ℤ) → column.low ≤ℤ number → number ≤ℤ column.high → is_in column number ≡ true
in_from column number low high = grind (arith, ints)

-- a number without a sign in a range
pub in_within : (low high n : ℕ) → low ≤ n → n ≤ high → is_in (within low high) (pos n) ≡ true
in_within low high n above below = in_from (within low high) (pos n) (search (arith, ints)) (search (arith, ints))

-- where all columns are the same
pub same_columns : (n : ℕ) (column : Column) (numbers : List ℤ) → length numbers ≤ n → all_in (replicate n column) numbers ≡ list_all (λ number. is_in column number) numbers
same_columns zero column [] few = refl
same_columns zero column (number ∷ numbers) few = absurd (omega arith)
same_columns (suc n) column [] few = refl
same_columns (suc n) column (number ∷ numbers) few = ap (λ (b : Bool). is_in column number && b) (same_columns n column numbers (omega arith))

-- ---- numbers without signs

pub abs_pos : (ns : List ℕ) → map unsigned_abs (map pos ns) ≡ ns
abs_pos [] = refl
abs_pos (n ∷ ns) = ap (λ (ms : List ℕ). n ∷ ms) (abs_pos ns)

pub pos_abs : (z : ℤ) → pos 0 ≤ℤ z → z ≡ pos (unsigned_abs z)
pos_abs (pos n) h = refl
pos_abs (negsuc n) h = absurd (omega (arith, ints, h))

pub abs_most : (z : ℤ) (most : ℕ) → pos 0 ≤ℤ z → z ≤ℤ pos most → unsigned_abs z ≤ most
abs_most (pos n) most low high = omega (arith, ints)
abs_most (negsuc n) most low high = absurd (omega (arith, ints, low))

pub abs_least : (z : ℤ) (least : ℕ) → pos least ≤ℤ z → least ≤ unsigned_abs z
abs_least (pos n) least low = omega (arith, ints)
abs_least (negsuc n) least low = absurd (omega (arith, ints, low))

-- a number of a column without a sign
pub record IsWithin (low high : ℕ) (number : ℤ) : Type 0 where
  pub same : number ≡ pos (unsigned_abs number)
  pub least : low ≤ unsigned_abs number
  pub most : unsigned_abs number ≤ high

pub is_within : (low high : ℕ) (number : ℤ) → is_in (within low high) number ≡ true → IsWithin low high number
is_within low high number h =
    let i = in_column (within low high) number h in
    let above = i.low in
    let whole : pos 0 ≤ℤ number = search (arith, ints) in
    record { same = pos_abs number whole; least = abs_least number low i.low; most = abs_most number high whole i.high }

-- numbers of one such column
pub record AreWithin (low high : ℕ) (numbers : List ℤ) : Type 0 where
  pub same : numbers ≡ map pos (map unsigned_abs numbers)
  pub range : AllBetween low high (map unsigned_abs numbers)

are_within : (low high : ℕ) (numbers : List ℤ) → list_all (λ number. is_in (within low high) number) numbers ≡ true → AreWithin low high numbers
are_within low high [] h = record { same = refl; range = All-nil (IsBetween low high) }
are_within low high (number ∷ numbers) h =
    let both = both_true (is_in (within low high) number) (list_all (λ n. is_in (within low high) n) numbers) h in
    let one = is_within low high number both.0 in
    let more = are_within low high numbers both.1 in
    record {
      same = ap (λ (z : ℤ). z ∷ numbers) one.same ∙ ap (λ (zs : List ℤ). pos (unsigned_abs number) ∷ zs) more.same;
      range = All-cons (IsBetween low high) (unsigned_abs number) (map unsigned_abs numbers) (one.least, one.most) more.range;
    }

pub columns_within : (count low high : ℕ) (numbers : List ℤ) → length numbers ≤ count → all_in (replicate count (within low high)) numbers ≡ true → AreWithin low high numbers
columns_within count low high numbers few h = are_within low high numbers (sym (same_columns count (within low high) numbers few) ∙ h)

all_within : (low high : ℕ) (ns : List ℕ) → AllBetween low high ns → list_all (λ number. is_in (within low high) number) (map pos ns) ≡ true
all_within low high [] h = refl
all_within low high (n ∷ ns) h =
    let one = All-head (IsBetween low high) n ns h in
    rw (in_within low high n one.0 one.1) (all_within low high ns (All-tail (IsBetween low high) n ns h))

pub within_columns : (count low high : ℕ) (ns : List ℕ) → length ns ≤ count → AllBetween low high ns → all_in (replicate count (within low high)) (map pos ns) ≡ true
within_columns count low high ns few h = same_columns count (within low high) (map pos ns) (omega (arith, length-map ns pos, few)) ∙ all_within low high ns h

-- numbers of a column are numbers of a wider one
wider : (low high most : ℕ) (number : ℤ) → high ≤ most → is_in (within low high) number ≡ true → is_in (within 0 most) number ≡ true
wider low high most number le h =
    let i = in_column (within low high) number h in
    let lower = i.low in
    let higher = i.high in
    grind (arith, ints)

pub all_wider : (low high most : ℕ) (numbers : List ℤ) → high ≤ most → list_all (λ number. is_in (within low high) number) numbers ≡ true → list_all (λ number. is_in (within 0 most) number) numbers ≡ true
all_wider low high most [] le h = refl
all_wider low high most (number ∷ numbers) le h =
    let both = both_true (is_in (within low high) number) (list_all (λ number. is_in (within low high) number) numbers) h in
    rw (wider low high most number le both.0) (all_wider low high most numbers le both.1)
