-- A row that is read is its numbers, printed, and numbers that are printed are read again.
use Rattle.std.proofs.Common.{◌≡◌, ℕ, ◌+◌, ◌^◌, ◌<◌, ◌≤◌, Bool, true, false, cond, not, ◌&&◌, ◌||◌, eqb, List, [], ◌∷◌, Option, Some, None, Result, Ok, Err, length, map, refl, sym, ap, ◌∙◌, arith, ℤ, pos, negsuc, lit<, lit≤, eq-eqb, ◌≤ℤ◌, option_map, unsigned_abs, int_le, bytes_eq, eqb-true}
use Rattle.std.specs.Fmt.{signed_decimal}
use Rattle.std.specs.List.{list_all, join_with_byte, AllByRecursion}
use Rattle.std.proofs.lemmas.Int.{ints}
use Rattle.std.proofs.lemmas.Fmt.{length-decimal-le}
use Rattle.std.proofs.lemmas.List.{length-map}
use Rattle.std.proofs.lemmas.Slice.Eq.{bytes_eq-Decides}
use Rattle.std.proofs.lemmas.List.Splits.{join_with_byte-slice_split}
use Rattle.tac_base.specs.Numerals.{numeral, signed_numeral}
use Rattle.tac_base.proofs.NumeralLaws.{both_true, numeral_is, numeral_again, short_value}
use Rattle.tac_base.proofs.Signed.{Lacks, signed_is, signed_again, positive_is, signed_lacks}
use Rattle.text_forms.specs.declared.lines.Reason.{Reason}
use Rattle.text_forms.specs.declared.lines.Reason.TheVariants.{Keyword, WordCount, OutOfRange}
use Rattle.text_forms.specs.declared.rows.Column.{Column}
use Rattle.text_forms.specs.declared.rows.Digits.{Digits}
use Rattle.text_forms.specs.declared.rows.Digits.TheVariants.{Ten, Eighteen}
use Rattle.text_forms.specs.Words.{words_of}
use Rattle.text_forms.specs.Rows.{most_digits, number_in_column, followed_by, numbers_of, is_in, all_in, in_range, row_of_words, row, row_text}
use Rattle.text_forms.proofs.Joins.{joined_parts}
use Rattle.text_forms.proofs.Columns.{in_column, passes}

-- one below the greatest number of a numeral
abbrev pub widest : Digits → ℕ
widest Ten = 9999999998
widest Eighteen = 999999999999999998

-- a column of numbers that its numerals can write, without a sign where it has no negative number
abbrev pub is_column : Column → Bool
is_column column = (column.signed || int_le (pos 0) column.low) && (int_le (negsuc (widest column.digits)) column.low && int_le column.high (pos (widest column.digits + 1)))

few_digits : (digits : Digits) → most_digits digits ≤ 18
few_digits Ten = lit≤ tt
few_digits Eighteen = lit≤ tt

number_by : (digits : ℕ) (signed : Bool) (word : List ℕ) (number : ℤ) → digits ≤ 18 → cond signed (signed_numeral digits word) (option_map pos (numeral digits word)) ≡ Some number → word ≡ signed_decimal number
number_by digits true word number few h = signed_is digits word number few h
number_by digits false word number few h =
    let o = positive_is (numeral digits word) number h in
    let small : o.0 < 10 ^ 18 = short_value digits word o.0 few o.1 in
    ap (λ (w : List ℕ). w) (numeral_is digits word o.0 o.1 (omega (arith, small))).0 ∙ ap signed_decimal (sym o.2)

number_is : (column : Column) (word : List ℕ) (number : ℤ) → number_in_column column word ≡ Some number → word ≡ signed_decimal number
number_is column word number h = number_by (most_digits column.digits) column.signed word number (few_digits column.digits) h

-- a number that is below a power of ten has its numeral
number_back : (digits : ℕ) (signed : Bool) (number : ℤ) → 0 < digits → unsigned_abs number < 10 ^ digits → unsigned_abs number < 2 ^ 64 → (signed ≡ false → pos 0 ≤ℤ number) → cond signed (signed_numeral digits (signed_decimal number)) (option_map pos (numeral digits (signed_decimal number))) ≡ Some number
number_back digits true number some small whole sign = signed_again digits number whole (length-decimal-le digits (unsigned_abs number) some small whole)
number_back digits false (pos n) some small whole sign = rw (numeral_again digits n whole (length-decimal-le digits n some small whole)) refl
number_back digits false (negsuc n) some small whole sign = absurd (let h = sign refl in omega (arith, ints, h))

abs_small : (digits : Digits) (z : ℤ) → negsuc (widest digits) ≤ℤ z → z ≤ℤ pos (widest digits + 1) → unsigned_abs z < 10 ^ most_digits digits
abs_small Ten (pos n) low high = omega (arith, ints)
abs_small Ten (negsuc n) low high = omega (arith, ints)
abs_small Eighteen (pos n) low high = omega (arith, ints)
abs_small Eighteen (negsuc n) low high = omega (arith, ints)

either_true : (a b : Bool) → a || b ≡ true → a ≡ false → b ≡ true
either_true true b h e = absurd cc
either_true false b h e = h

at_least : (a b c : ℤ) → a ≤ℤ b → b ≤ℤ c → a ≤ℤ c
at_least a b c low high = search (arith, ints)

-- what the limits of a column say of it
record IsWithinWidth (column : Column) : Type 0 where
  sign : column.signed || int_le (pos 0) column.low ≡ true
  low : negsuc (widest column.digits) ≤ℤ column.low
  high : column.high ≤ℤ pos (widest column.digits + 1)

within_width : (column : Column) → is_column column ≡ true → IsWithinWidth column
within_width column c =
    let limits = both_true (column.signed || int_le (pos 0) column.low) (int_le (negsuc (widest column.digits)) column.low && int_le column.high (pos (widest column.digits + 1))) c in
    let ends = both_true (int_le (negsuc (widest column.digits)) column.low) (int_le column.high (pos (widest column.digits + 1))) limits.1 in
    record { sign = limits.0; low = passes (negsuc (widest column.digits)) column.low ends.0; high = passes column.high (pos (widest column.digits + 1)) ends.1 }

pub number_tiny : (column : Column) (number : ℤ) → is_column column ≡ true → is_in column number ≡ true → unsigned_abs number < 10 ^ most_digits column.digits
number_tiny column number c h =
    let width = within_width column c in
    let i = in_column column number h in
    abs_small column.digits number (at_least _ _ _ width.low i.low) (at_least _ _ _ i.high width.high)

short_abs : (digits : Digits) (n : ℕ) → n < 10 ^ most_digits digits → n < 2 ^ 64
short_abs Ten n small = omega (arith, small)
short_abs Eighteen n small = omega (arith, small)

some_digit : (digits : Digits) → 0 < most_digits digits
some_digit Ten = lit< tt
some_digit Eighteen = lit< tt

number_small : (column : Column) (number : ℤ) → is_column column ≡ true → is_in column number ≡ true → unsigned_abs number < 2 ^ 64
number_small column number c h = short_abs column.digits (unsigned_abs number) (number_tiny column number c h)

number_again : (column : Column) (number : ℤ) → is_column column ≡ true → is_in column number ≡ true → number_in_column column (signed_decimal number) ≡ Some number
number_again column number c h =
    let width = within_width column c in
    let i = in_column column number h in
    number_back (most_digits column.digits) column.signed number (some_digit column.digits) (number_tiny column number c h) (number_small column number c h)
    (λ e. at_least _ _ _ (passes (pos 0) column.low (either_true column.signed (int_le (pos 0) column.low) width.sign e)) i.low)

-- ---- all numbers of a row

followed_is : (number : Option ℤ) (others : Option (List ℤ)) (numbers : List ℤ) → followed_by number others ≡ Some numbers → (n : ℤ) × (ns : List ℤ) × (number ≡ Some n) × (others ≡ Some ns) × (numbers ≡ n ∷ ns)
followed_is None others numbers h = absurd cc
followed_is (Some n) None numbers h = absurd cc
followed_is (Some n) (Some ns) numbers h = (n, ns, refl, refl, cc)

numbers_are : (columns : List Column) (words : List (List ℕ)) (numbers : List ℤ) → length words ≡ length columns → numbers_of columns words ≡ Some numbers → words ≡ map signed_decimal numbers
numbers_are [] [] numbers len h = let e : [] ≡ numbers = cc in ap (map signed_decimal) e
numbers_are [] (word ∷ words) numbers len h = absurd (omega (arith, len))
numbers_are (column ∷ columns) [] numbers len h = absurd cc
numbers_are (column ∷ columns) (word ∷ words) numbers len h =
    let f = followed_is (number_in_column column word) (numbers_of columns words) numbers h in
    let one = number_is column word f.0 f.2 in
    let more = numbers_are columns words f.1 (omega (arith, len)) f.3 in
    ap (λ (w : List ℕ). w ∷ words) one ∙ ap (λ (ws : List (List ℕ)). signed_decimal f.0 ∷ ws) more ∙ ap (map signed_decimal) (sym f.4)

numbers_again : (columns : List Column) (numbers : List ℤ) → list_all is_column columns ≡ true → length numbers ≡ length columns → all_in columns numbers ≡ true → numbers_of columns (map signed_decimal numbers) ≡ Some numbers
numbers_again [] [] c len h = refl
numbers_again [] (number ∷ numbers) c len h = absurd (omega (arith, len))
numbers_again (column ∷ columns) [] c len h = absurd (omega (arith, len))
numbers_again (column ∷ columns) (number ∷ numbers) c len h =
    let cs = both_true (is_column column) (list_all is_column columns) c in
    let hs = both_true (is_in column number) (all_in columns numbers) h in
    rw (number_again column number cs.0 hs.0, numbers_again columns numbers cs.1 (omega (arith, len)) hs.1) refl

pub numbers_lack : (columns : List Column) (numbers : List ℤ) → list_all is_column columns ≡ true → length numbers ≡ length columns → all_in columns numbers ≡ true → (byte : ℕ) → byte < 45 → AllByRecursion (Lacks byte) (map signed_decimal numbers)
numbers_lack columns [] c len h byte lt = tt
numbers_lack [] (number ∷ numbers) c len h byte lt = absurd (omega (arith, len))
numbers_lack (column ∷ columns) (number ∷ numbers) c len h byte lt =
    let cs = both_true (is_column column) (list_all is_column columns) c in
    let hs = both_true (is_in column number) (all_in columns numbers) h in
    (signed_lacks byte number lt (number_small column number cs.0 hs.0), numbers_lack columns numbers cs.1 (omega (arith, len)) hs.1 byte lt)

-- ---- a row

pub same_word : (xs ys : List ℕ) → bytes_eq xs ys ≡ true → xs ≡ ys
same_word xs ys h = (bytes_eq-Decides xs ys).0 h

pub is_same : (xs : List ℕ) → bytes_eq xs xs ≡ true
is_same xs = (bytes_eq-Decides xs xs).1 refl

pub row_again : (keyword : List ℕ) (columns : List Column) (numbers : List ℤ) → Lacks 32 keyword → list_all is_column columns ≡ true → length numbers ≡ length columns → all_in columns numbers ≡ true → row keyword columns (row_text keyword numbers) ≡ Ok numbers
unfolding row
row_again keyword columns numbers lacks c len h =
    let words : words_of (row_text keyword numbers) ≡ keyword ∷ map signed_decimal numbers = joined_parts 32 keyword (map signed_decimal numbers) lacks (numbers_lack columns numbers c len h 32 (lit< tt)) in
    let count : eqb (length (map signed_decimal numbers)) (length columns) ≡ true = eq-eqb _ _ (omega (arith, length-map numbers signed_decimal, len)) in
    rw (words, is_same keyword, count, numbers_again columns numbers c len h, h) refl

-- what a row that was read has
pub record IsRow (keyword : List ℕ) (columns : List Column) (line : List ℕ) (numbers : List ℤ) : Type 0 where
  pub text : line ≡ row_text keyword numbers
  pub range : all_in columns numbers ≡ true
  pub count : length numbers ≡ length columns

abbrev row_ok : List ℤ → Result (List ℤ) Reason
row_ok numbers = Ok numbers

abbrev some : List ℤ → Option (List ℤ)
some numbers = Some numbers

range_ok : (b : Bool) (columns : List Column) (ns numbers : List ℤ) → all_in columns ns ≡ b → cond b (row_ok ns) (Err OutOfRange) ≡ Ok numbers → (Some ns ≡ some numbers) × (all_in columns numbers ≡ true)
range_ok true columns ns numbers e h = let same : ns ≡ numbers = cc in (ap some same, ap (all_in columns) (sym same) ∙ e)
range_ok false columns ns numbers e h = absurd cc

in_range_ok : (columns : List Column) (read : Option (List ℤ)) (numbers : List ℤ) → in_range columns read ≡ Ok numbers → (read ≡ Some numbers) × (all_in columns numbers ≡ true)
in_range_ok columns None numbers h = absurd cc
in_range_ok columns (Some ns) numbers h = range_ok (all_in columns ns) columns ns numbers refl h

passed : (b : Bool) (reason : Reason) (r : Result (List ℤ) Reason) (numbers : List ℤ) → cond (not b) (Err reason) r ≡ Ok numbers → (b ≡ true) × (r ≡ Ok numbers)
passed true reason r numbers h = (refl, h)
passed false reason r numbers h = absurd cc

row_words_ok : (keyword : List ℕ) (columns : List Column) (words : List (List ℕ)) (numbers : List ℤ) → row_of_words keyword columns words ≡ Ok numbers → (words ≡ keyword ∷ map signed_decimal numbers) × (all_in columns numbers ≡ true) × (length numbers ≡ length columns)
row_words_ok keyword columns [] numbers h = absurd cc
row_words_ok keyword columns (first ∷ words) numbers h =
    let a = passed (bytes_eq first keyword) Keyword _ numbers h in
    let b = passed (eqb (length words) (length columns)) WordCount _ numbers a.1 in
    let r = in_range_ok columns (numbers_of columns words) numbers b.1 in
    let rest = numbers_are columns words numbers (eqb-true _ _ b.0) r.0 in
    (ap (λ (w : List ℕ). w ∷ words) (same_word first keyword a.0) ∙ ap (λ (ws : List (List ℕ)). keyword ∷ ws) rest, r.1, omega (arith, eqb-true _ _ b.0, ap length rest, length-map numbers signed_decimal))

pub row_is : (keyword : List ℕ) (columns : List Column) (line : List ℕ) (numbers : List ℤ) → row keyword columns line ≡ Ok numbers → IsRow keyword columns line numbers
unfolding row
row_is keyword columns line numbers h =
    let r = row_words_ok keyword columns (words_of line) numbers h in
    record {
      text = sym (join_with_byte-slice_split 32 line) ∙ ap (join_with_byte 32) r.0;
      range = r.1;
      count = r.2;
    }
