-- Reading the words of a row one after the other.
use Rattle.std.proofs.Common.{◌≡◌, ℕ, ◌<◌, ◌≤◌, List, [], ◌∷◌, ◌++◌, ℤ, Option, None, length, map, take, drop, refl, ap, ◌∙◌, append_assoc, option_map, flat_map, drop-cons, take_all, append-nil}
use Rattle.std.specs.List.{join_with_byte}
use Rattle.std.proofs.lemmas.List.Concat.{flat_map-cons}
use Rattle.text_forms.specs.declared.rows.Column.{Column}
use Rattle.text_forms.specs.Rows.{numbers_of}

-- numbers that were read before
abbrev pub with_front : List ℤ → Option (List ℤ) → Option (List ℤ)
with_front front read = option_map (λ numbers. front ++ numbers) read

-- a word is missing
pub no_word : (front : List ℤ) (columns : List Column) (i : ℕ) (column : Column) → i < length columns → with_front front (numbers_of (drop i columns) []) ≡ None
no_word front columns i column lt = rw (drop-cons columns i column) refl

-- what stands after a keyword, each after a space
abbrev pub spaced : {A : Type 0} → (A → List ℕ) → List A → List ℕ
spaced text xs = flat_map (λ x. 32 ∷ text x) xs

pub keyword_and_words : {A : Type 0} (text : A → List ℕ) (keyword : List ℕ) (xs : List A) → keyword ++ spaced text xs ≡ join_with_byte 32 (keyword ∷ map text xs)
keyword_and_words text keyword [] = append-nil keyword
keyword_and_words text keyword (x ∷ xs) =
    let more = keyword_and_words text (text x) xs in
    rw flat_map-cons (ap (λ (t : List ℕ). keyword ++ 32 ∷ t) more)

-- the line end after the last of them
pub line_done : {A : Type 0} (text : A → List ℕ) (old keyword out new : List ℕ) (xs : List A) (i : ℕ) → length xs ≤ i → out ≡ old ++ (keyword ++ spaced text (take i xs)) → new ≡ out ++ 10 ∷ [] → new ≡ old ++ (join_with_byte 32 (keyword ∷ map text xs) ++ 10 ∷ [])
line_done {A} text old keyword out new xs i le before after =
    let words = join_with_byte 32 (keyword ∷ map text xs) in
    let whole : out ≡ old ++ words = before ∙ ap (λ (ys : List A). old ++ (keyword ++ spaced text ys)) (take_all i xs le) ∙ ap (λ (t : List ℕ). old ++ t) (keyword_and_words text keyword xs) in
    after ∙ ap (λ (t : List ℕ). t ++ 10 ∷ []) whole ∙ append_assoc old words (10 ∷ [])
