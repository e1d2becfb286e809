-- Printing parts one after the other.
use Rattle.std.proofs.Common.{◌≡◌, ℕ, ◌+◌, ◌<◌, List, [], ◌∷◌, ◌++◌, length, take, get_or, sym, ap, ◌∙◌, append_assoc, arith, add-one, take-suc, append-nil, length-take-le}
use Rattle.std.proofs.lemmas.Grind.{flat_map-append}
use Rattle.text_forms.specs.{text_of, lines_of_parts}

-- a part more
lines_then : {A : Type 0} (lines : ℕ → A → List (List ℕ)) (from : ℕ) (xs : List A) (x : A) → lines_of_parts lines from (xs ++ x ∷ []) ≡ lines_of_parts lines from xs ++ lines (from + length xs) x
lines_then lines from [] x = append-nil (lines from x) ∙ ap (λ (n : ℕ). lines n x) (omega arith)
lines_then lines from (y ∷ xs) x =
    let counted : (from + 1) + length xs ≡ from + length (y ∷ xs) = omega arith in
    ap (λ (t : List (List ℕ)). lines from y ++ t) (lines_then lines (from + 1) xs x ∙ ap (λ (n : ℕ). lines_of_parts lines (from + 1) xs ++ lines n x) counted)
    ∙ sym (append_assoc (lines from y) (lines_of_parts lines (from + 1) xs) (lines (from + length (y ∷ xs)) x))

taken_lines : {A : Type 0} (lines : ℕ → A → List (List ℕ)) (xs : List A) (i : ℕ) (x : A) → i < length xs → x ≡ get_or xs i x → lines_of_parts lines 0 (take (i + 1) xs) ≡ lines_of_parts lines 0 (take i xs) ++ lines i x
taken_lines {A} lines xs i x lt is =
    let count : 0 + length (take i xs) ≡ i = omega (arith, length-take-le i xs (omega arith)) in
    let more : take (i + 1) xs ≡ take i xs ++ x ∷ [] = rw add-one (take-suc xs i x lt ∙ ap (λ (y : A). take i xs ++ y ∷ []) (sym is)) in
    ap (lines_of_parts lines 0) more ∙ lines_then lines 0 (take i xs) x ∙ ap (λ (n : ℕ). lines_of_parts lines 0 (take i xs) ++ lines n x) count

pub prints_one : {A : Type 0} (lines : ℕ → A → List (List ℕ)) (old out new : List ℕ) (xs : List A) (i : ℕ) (x : A) → i < length xs → x ≡ get_or xs i x → out ≡ old ++ text_of (lines_of_parts lines 0 (take i xs)) → new ≡ out ++ text_of (lines i x)
    → new ≡ old ++ text_of (lines_of_parts lines 0 (take (i + 1) xs))
prints_one lines old out new xs i x lt is before after =
    let texts : text_of (lines_of_parts lines 0 (take (i + 1) xs)) ≡ text_of (lines_of_parts lines 0 (take i xs)) ++ text_of (lines i x) = ap text_of (taken_lines lines xs i x lt is) ∙ flat_map-append (λ line. line ++ 10 ∷ []) (lines_of_parts lines 0 (take i xs)) (lines i x) in
    after ∙ ap (λ (t : List ℕ). t ++ text_of (lines i x)) before ∙ append_assoc old (text_of (lines_of_parts lines 0 (take i xs))) (text_of (lines i x)) ∙ ap (λ (t : List ℕ). old ++ t) (sym texts)
