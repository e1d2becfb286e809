-- Printed lines are cut again, and none of them is taken for a comment.
use Rattle.std.proofs.Common.{◌≡◌, ◌≢◌, ℕ, suc, ◌+◌, ◌*◌, ◌^◌, ◌<◌, ◌≤◌, Bool, true, false, not, ◌&&◌, eqb, List, [], ◌∷◌, ◌++◌, length, map, drop, refl, ap, ◌∙◌, append_assoc, arith, ℤ, pos, negsuc, lit<, subst, slice_index, unsigned_abs, All, eq-eqb, eqb-true, length-append}
use Rattle.std.specs.Fmt.{signed_decimal}
use Rattle.std.specs.List.{list_all, join_with_byte, AllByRecursion}
use Rattle.std.proofs.lemmas.Fmt.{length-decimal-le}
use Rattle.std.proofs.lemmas.List.{length-map}
use Rattle.std.proofs.lemmas.List.Concat.{flat_map-cons}
use Rattle.std.proofs.lemmas.List.Elements.{All-from_recursion, All-head, All-tail}
use Rattle.tac_base.proofs.NumeralLaws.{both_true}
use Rattle.tac_base.proofs.Signed.{Lacks}
use Rattle.text_forms.specs.declared.rows.Column.{Column}
use Rattle.text_forms.specs.{parts_of, NumberedLine, Remaining, is_comment, lines_from, text_of, AreLinesLeft, lines_of_parts}
use Rattle.text_forms.specs.Rows.{most_digits, is_in, all_in, row_text}
use Rattle.text_forms.proofs.Joins.{parts_more}
use Rattle.text_forms.proofs.RowLaws.{is_column, number_tiny, numbers_lack}

-- a line of at most this many bytes with no line end in it that is no comment
pub record IsLine (most : ℕ) (line : List ℕ) : Type 0 where
  pub lacks : Lacks 10 line
  pub kept : is_comment line ≡ false
  pub short : length line ≤ most

-- a word of which a test shows that it lacks a byte
lacks_at : (t : Bool) (byte b : ℕ) (word : List ℕ) → eqb b byte ≡ t → not t && list_all (λ c. not (eqb c byte)) word ≡ true → (list_all (λ c. not (eqb c byte)) word ≡ true → Lacks byte word) → Lacks byte (b ∷ word)
lacks_at true byte b word e h more = absurd cc
lacks_at false byte b word e h more = (e, more h)

pub lacks_from : (byte : ℕ) (word : List ℕ) → list_all (λ b. not (eqb b byte)) word ≡ true → Lacks byte word
lacks_from byte [] h = tt
lacks_from byte (b ∷ word) h = lacks_at (eqb b byte) byte b word refl h (lacks_from byte word)

other_byte : (byte b : ℕ) → eqb b byte ≡ false → b ≢ byte
other_byte byte b h e = absurd (let same : eqb b byte ≡ true = eq-eqb b byte e in cc)

other_bytes : (byte : ℕ) (word : List ℕ) → Lacks byte word → AllByRecursion (λ b. b ≢ byte) word
other_bytes byte [] h = tt
other_bytes byte (b ∷ word) h = (other_byte byte b h.0, other_bytes byte word h.1)

-- no byte of such a word is that byte
pub none_is : (byte : ℕ) (word : List ℕ) → Lacks byte word → All (λ b. b ≢ byte) word
none_is byte word h = All-from_recursion (λ b. b ≢ byte) word (other_bytes byte word h)

lacks_append : (byte : ℕ) (xs ys : List ℕ) → Lacks byte xs → Lacks byte ys → Lacks byte (xs ++ ys)
lacks_append byte [] ys h k = k
lacks_append byte (x ∷ xs) ys h k = (h.0, lacks_append byte xs ys h.1 k)

pub join_lacks : (byte : ℕ) (words : List (List ℕ)) → eqb 32 byte ≡ false → AllByRecursion (Lacks byte) words → Lacks byte (join_with_byte 32 words)
join_lacks byte [] e h = tt
join_lacks byte (word ∷ []) e h = h.0
join_lacks byte (word ∷ next ∷ words) e h = lacks_append byte word (32 ∷ join_with_byte 32 (next ∷ words)) h.0 (e, join_lacks byte (next ∷ words) e h.1)

pub starts_kept : (first : ℕ) (rest : List ℕ) (words : List (List ℕ)) → eqb first 35 ≡ false → is_comment (join_with_byte 32 ((first ∷ rest) ∷ words)) ≡ false
starts_kept first rest [] h = h
starts_kept first rest (word ∷ words) h = h

-- the words of a line are no longer than that
pub join_short : (most : ℕ) (word : List ℕ) (words : List (List ℕ)) → AllByRecursion (λ w. length w ≤ most) words → length (join_with_byte 32 (word ∷ words)) ≤ length word + (most + 1) * length words
join_short most word [] h = omega arith
join_short most word (next ∷ words) h =
    let more = join_short most next words h.1 in
    let first = h.0 in
    let product : (most + 1) * suc (length words) ≡ (most + 1) * length words + (most + 1) = omega arith in
    omega (arith, more, first, product, length-append word (32 ∷ join_with_byte 32 (next ∷ words)))

-- ---- a row is such a line

number_short : (number : ℤ) → unsigned_abs number < 10 ^ 10 → length (signed_decimal number) ≤ 11
number_short (pos n) small = let len = length-decimal-le 10 n (lit< tt) small (omega (arith, small)) in omega (arith, len)
number_short (negsuc n) small = let len = length-decimal-le 10 (suc n) (lit< tt) small (omega (arith, small)) in omega (arith, len)

-- a column of numerals of at most ten digits
abbrev pub is_narrow : Column → Bool
is_narrow column = eqb (most_digits column.digits) 10

narrow_tiny : (digits n : ℕ) → eqb digits 10 ≡ true → n < 10 ^ digits → n < 10 ^ 10
narrow_tiny digits n narrow small = subst (λ (d : ℕ). n < 10 ^ d) (eqb-true _ _ narrow) small

numbers_short : (columns : List Column) (numbers : List ℤ) → list_all is_column columns ≡ true → list_all is_narrow columns ≡ true → length numbers ≡ length columns → all_in columns numbers ≡ true → AllByRecursion (λ word. length word ≤ 11) (map signed_decimal numbers)
numbers_short columns [] c narrow len h = tt
numbers_short [] (number ∷ numbers) c narrow len h = absurd (omega (arith, len))
numbers_short (column ∷ columns) (number ∷ numbers) c narrow len h =
    let cs = both_true (is_column column) (list_all is_column columns) c in
    let ns = both_true (is_narrow column) (list_all is_narrow columns) narrow in
    let hs = both_true (is_in column number) (all_in columns numbers) h in
    (number_short number (narrow_tiny (most_digits column.digits) (unsigned_abs number) ns.0 (number_tiny column number cs.0 hs.0)), numbers_short columns numbers cs.1 ns.1 (omega (arith, len)) hs.1)

pub row_line : (most first : ℕ) (rest : List ℕ) (columns : List Column) (numbers : List ℤ) → Lacks 10 (first ∷ rest) → eqb first 35 ≡ false → length (first ∷ rest) + 12 * length numbers ≤ most → list_all is_column columns ≡ true → list_all is_narrow columns ≡ true → length numbers ≡ length columns → all_in columns numbers ≡ true → IsLine most (row_text (first ∷ rest) numbers)
row_line most first rest columns numbers lacks other few c narrow len h = record {
  lacks = join_lacks 10 ((first ∷ rest) ∷ map signed_decimal numbers) refl (lacks, numbers_lack columns numbers c len h 10 (lit< tt));
  kept = starts_kept first rest (map signed_decimal numbers) other;
  short = let all = join_short 11 (first ∷ rest) (map signed_decimal numbers) (numbers_short columns numbers c narrow len h) in omega (arith, all, few, length-map numbers signed_decimal);
}

-- ---- lines with numbers ahead

-- lines with their numbers
abbrev pub numbered : List ℕ → List (List ℕ) → List NumberedLine
numbered numbers [] = []
numbered numbers (line ∷ lines) = record { number = slice_index numbers 0; bytes = line } ∷ numbered (drop 1 numbers) lines

-- these lines with these numbers, and then what is left
abbrev pub ahead : List ℕ → List (List ℕ) → Remaining → Remaining
ahead numbers lines after = record after { lines = numbered numbers lines ++ after.lines }

-- nothing is left
unfoldable pub at_end : ℕ → Remaining
at_end number = record { lines = []; last = number; ended = true }

-- a text is cut into its lines again
parts_of_text : (most : ℕ) (lines : List (List ℕ)) → AllByRecursion (IsLine most) lines → parts_of 10 (text_of lines) ≡ lines ++ [] ∷ []
parts_of_text most [] h = refl
parts_of_text most (line ∷ lines) h =
    let made : text_of (line ∷ lines) ≡ line ++ 10 ∷ text_of lines = flat_map-cons (λ l. l ++ 10 ∷ []) line lines ∙ append_assoc line (10 ∷ []) (text_of lines) in
    ap (parts_of 10) made ∙ parts_more 10 line (text_of lines) h.0.lacks ∙ ap (λ (ls : List (List ℕ)). line ∷ ls) (parts_of_text most lines h.1)

lines_ahead : (most : ℕ) (lines : List (List ℕ)) (number : ℕ) → AllByRecursion (IsLine most) lines → (m : ℕ) × (numbers : List ℕ) × (lines_from true number (lines ++ [] ∷ []) ≡ ahead numbers lines (at_end m))
unfolding at_end
lines_ahead most [] number h = (number, [], refl)
lines_ahead most (line ∷ []) number h = (number + 1, number ∷ [], rw h.0.kept refl)
lines_ahead most (line ∷ next ∷ lines) number h =
    let more = lines_ahead most (next ∷ lines) (number + 1) h.1 in
    (more.0, number ∷ more.1, rw (h.0.kept, more.2) refl)

-- the lines of a text that is printed are ahead
pub text_ahead : (most : ℕ) (lines : List (List ℕ)) → AllByRecursion (IsLine most) lines → (m : ℕ) × (numbers : List ℕ) × (lines_from true 1 (parts_of 10 (text_of lines)) ≡ ahead numbers lines (at_end m))
text_ahead most lines h =
    let cut = lines_ahead most lines 1 h in
    (cut.0, cut.1, ap (lines_from true 1) (parts_of_text most lines h) ∙ cut.2)

remaining : List NumberedLine → ℕ → Bool → Remaining
remaining lines last ended = record { lines = lines; last = last; ended = ended }

-- numbered lines are their bytes with their numbers
as_numbered : (lines : List NumberedLine) → lines ≡ numbered (map (λ line. line.number) lines) (map (λ line. line.bytes) lines) ++ []
as_numbered [] = refl
as_numbered (line ∷ lines) = ap (λ (ls : List NumberedLine). line ∷ ls) (as_numbered lines)

-- lines that are left are ahead, whatever their numbers
pub left_ahead : (lines : List (List ℕ)) (left : Remaining) → AreLinesLeft lines left → (m : ℕ) × (numbers : List ℕ) × (left ≡ ahead numbers lines (at_end m))
unfolding at_end remaining
left_ahead lines left are =
    let numbers = map (λ line. line.number) left.lines in
    let same : left.lines ≡ numbered numbers lines ++ [] = as_numbered left.lines ∙ ap (λ (ls : List (List ℕ)). numbered numbers ls ++ []) are.same in
    (left.last, numbers, ap (λ (ls : List NumberedLine). remaining ls left.last left.ended) same ∙ ap (λ (b : Bool). remaining (numbered numbers lines ++ []) left.last b) are.ended)

-- the length of a text of such lines
pub text_short : (most : ℕ) (lines : List (List ℕ)) → AllByRecursion (IsLine most) lines → length (text_of lines) ≤ (most + 1) * length lines
text_short most [] h = omega arith
text_short most (line ∷ lines) h =
    let more = text_short most lines h.1 in
    let short = h.0.short in
    let product : (most + 1) * suc (length lines) ≡ (most + 1) * length lines + (most + 1) = omega arith in
    let made : length (text_of (line ∷ lines)) ≡ length ((line ++ 10 ∷ []) ++ text_of lines) = ap length (flat_map-cons (λ l. l ++ 10 ∷ []) line lines) in
    omega (arith, more, short, product, made, length-append (line ++ 10 ∷ []) (text_of lines), length-append line (10 ∷ []))

-- ---- the lines of parts

pub lines_append : (most : ℕ) (xs ys : List (List ℕ)) → AllByRecursion (IsLine most) xs → AllByRecursion (IsLine most) ys → AllByRecursion (IsLine most) (xs ++ ys)
lines_append most [] ys h k = k
lines_append most (x ∷ xs) ys h k = (h.0, lines_append most xs ys h.1 k)

pub parts_lines : {A : Type 0} (lines : ℕ → A → List (List ℕ)) (P : A → Type 0) (most count : ℕ) → ((i : ℕ) (x : A) → i < count → P x → AllByRecursion (IsLine most) (lines i x)) → (xs : List A) (from : ℕ) → from + length xs ≤ count → All P xs → AllByRecursion (IsLine most) (lines_of_parts lines from xs)
parts_lines lines P most count each [] from few h = tt
parts_lines lines P most count each (x ∷ xs) from few h = lines_append most (lines from x) (lines_of_parts lines (from + 1) xs) (each from x (omega (arith, few)) (All-head P x xs h)) (parts_lines lines P most count each xs (from + 1) (omega (arith, few)) (All-tail P x xs h))

-- parts of this many lines each
pub count_parts : {A : Type 0} (lines : ℕ → A → List (List ℕ)) (P : A → Type 0) (count : ℕ) → ((i : ℕ) (x : A) → P x → length (lines i x) ≡ count) → (xs : List A) (from : ℕ) → All P xs → length (lines_of_parts lines from xs) ≡ count * length xs
count_parts lines P count each [] from h = omega arith
count_parts lines P count each (x ∷ xs) from h =
    let more = count_parts lines P count each xs (from + 1) (All-tail P x xs h) in
    let one = each from x (All-head P x xs h) in
    let product : count * suc (length xs) ≡ count * length xs + count = omega arith in
    omega (arith, more, one, product, length-append (lines from x) (lines_of_parts lines (from + 1) xs))
