-- Texts that are cut at a byte, and lines of words.
use Rattle.std.proofs.Common.{◌≡◌, ℕ, ◌^◌, ◌<◌, true, false, eqb, List, [], ◌∷◌, ◌++◌, Some, refl, sym, ap, ◌∙◌, append_assoc, arith, ℤ, decimal, lit<, unsigned_abs, flat_map, eq-eqb}
use Rattle.std.specs.Fmt.{signed_decimal}
use Rattle.std.specs.List.{AllByRecursion, join_with_byte}
use Rattle.std.proofs.lemmas.Option.{same_Some}
use Rattle.std.proofs.lemmas.Fmt.{length-decimal-le}
use Rattle.std.proofs.lemmas.List.Concat.{flat_map-cons}
use Rattle.log_text.specs.Prelude.{numeral, signed_numeral, parts_of}
use Rattle.tac_base.proofs.NumeralLaws.{numeral_again}
use Rattle.tac_base.proofs.Signed.{Lacks, decimal_lacks, signed_lacks, signed_again}
use Rattle.text_forms.proofs.Joins.{joined_parts}
use Rattle.text_forms.proofs.PrintedLines.{join_lacks}

-- ---- a cut

pub cut_same : (byte : ℕ) (xs ys us vs : List ℕ) → Lacks byte xs → Lacks byte ys → xs ++ byte ∷ us ≡ ys ++ byte ∷ vs → (xs ≡ ys) × (us ≡ vs)
cut_same byte [] [] us vs h k e = (refl, cc)
cut_same byte [] (y ∷ ys) us vs h k e = absurd (let same : y ≡ byte = cc in let test : eqb y byte ≡ true = eq-eqb y byte same in let clash : true ≡ false = sym test ∙ k.0 in cc)
cut_same byte (x ∷ xs) [] us vs h k e = absurd (let same : x ≡ byte = cc in let test : eqb x byte ≡ true = eq-eqb x byte same in let clash : true ≡ false = sym test ∙ h.0 in cc)
cut_same byte (x ∷ xs) (y ∷ ys) us vs h k e =
    let first : x ≡ y = cc in
    let rest : xs ++ byte ∷ us ≡ ys ++ byte ∷ vs = cc in
    let c = cut_same byte xs ys us vs h.1 k.1 rest in
    (ap (λ (b : ℕ). b ∷ xs) first ∙ ap (λ (bs : List ℕ). y ∷ bs) c.0, c.1)

pub lacks_append : (byte : ℕ) (xs ys : List ℕ) → Lacks byte xs → Lacks byte ys → Lacks byte (xs ++ ys)
lacks_append byte [] ys h k = k
lacks_append byte (x ∷ xs) ys h k = (h.0, lacks_append byte xs ys h.1 k)

-- ---- lines of words

-- a word without spaces and line ends
abbrev pub IsWord : List ℕ → Type 0
IsWord word = Lacks 32 word × Lacks 10 word

-- the line of words
abbrev pub row : List (List ℕ) → List ℕ
row words = join_with_byte 32 words ++ 10 ∷ []

no_spaces : (words : List (List ℕ)) → AllByRecursion IsWord words → AllByRecursion (Lacks 32) words
no_spaces [] h = tt
no_spaces (word ∷ words) h = (h.0.0, no_spaces words h.1)

no_line_ends : (words : List (List ℕ)) → AllByRecursion IsWord words → AllByRecursion (Lacks 10) words
no_line_ends [] h = tt
no_line_ends (word ∷ words) h = (h.0.1, no_line_ends words h.1)

-- a line of words has no line end within it, and has exactly these words
pub line_lacks : (words : List (List ℕ)) → AllByRecursion IsWord words → Lacks 10 (join_with_byte 32 words)
line_lacks words h = join_lacks 10 words refl (no_line_ends words h)

pub line_words : (word : List ℕ) (words : List (List ℕ)) → AllByRecursion IsWord (word ∷ words) → parts_of 32 (join_with_byte 32 (word ∷ words)) ≡ word ∷ words
line_words word words h = joined_parts 32 word words h.0.0 (no_spaces words h.1)

-- a line and what follows it
pub line_same : (xs ys us vs : List ℕ) → Lacks 10 xs → Lacks 10 ys → (xs ++ 10 ∷ []) ++ us ≡ (ys ++ 10 ∷ []) ++ vs → (xs ≡ ys) × (us ≡ vs)
line_same xs ys us vs h k e = cut_same 10 xs ys us vs h k (sym (append_assoc xs (10 ∷ []) us) ∙ e ∙ append_assoc ys (10 ∷ []) vs)

pub row_same : (word other : List ℕ) (words others : List (List ℕ)) (us vs : List ℕ) → AllByRecursion IsWord (word ∷ words) → AllByRecursion IsWord (other ∷ others) → row (word ∷ words) ++ us ≡ row (other ∷ others) ++ vs → (word ∷ words ≡ other ∷ others) × (us ≡ vs)
row_same word other words others us vs h k e =
    let cut = line_same (join_with_byte 32 (word ∷ words)) (join_with_byte 32 (other ∷ others)) us vs (line_lacks (word ∷ words) h) (line_lacks (other ∷ others) k) e in
    (sym (line_words word words h) ∙ ap (parts_of 32) cut.0 ∙ line_words other others k, cut.1)

-- ---- numbers

pub number_word : (n : ℕ) → n < 2 ^ 64 → IsWord (decimal n)
number_word n small = (decimal_lacks 32 n (lit< tt) small, decimal_lacks 10 n (lit< tt) small)

pub signed_word : (z : ℤ) → unsigned_abs z < 2 ^ 64 → IsWord (signed_decimal z)
signed_word z small = (signed_lacks 32 z (lit< tt) small, signed_lacks 10 z (lit< tt) small)

pub number_again : (n : ℕ) → n < 2 ^ 64 → numeral 20 (decimal n) ≡ Some n
number_again n small = numeral_again 20 n small (length-decimal-le 20 n (lit< tt) (omega (arith, small)) small)

pub holding_again : (z : ℤ) → unsigned_abs z < 2 ^ 64 → signed_numeral 20 (signed_decimal z) ≡ Some z
holding_again z small = signed_again 20 z small (length-decimal-le 20 (unsigned_abs z) (lit< tt) (omega (arith, small)) small)

pub signed_same : (y z : ℤ) → unsigned_abs y < 2 ^ 64 → unsigned_abs z < 2 ^ 64 → signed_decimal y ≡ signed_decimal z → y ≡ z
signed_same y z h k e = same_Some y z (sym (holding_again y h) ∙ ap (signed_numeral 20) e ∙ holding_again z k)

-- ---- pieces one after another

pub pieces_cons : {A : Type 0} (piece : A → List ℕ) (x : A) (xs : List A) (rest : List ℕ) → flat_map piece (x ∷ xs) ++ rest ≡ piece x ++ (flat_map piece xs ++ rest)
pieces_cons piece x xs rest = ap (λ (t : List ℕ). t ++ rest) (flat_map-cons piece x xs) ∙ append_assoc (piece x) (flat_map piece xs) rest
