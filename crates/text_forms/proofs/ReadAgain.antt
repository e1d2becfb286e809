-- Printed lines are read again, with whatever numbers.
use Rattle.std.proofs.Common.{◌≡◌, ℕ, suc, ◌+◌, ◌≤◌, ◌<◌, List, [], ◌∷◌, ◌++◌, Result, Ok, length, drop, refl, sym, ap, ◌∙◌, append_assoc, arith, All}
use Rattle.std.proofs.lemmas.List.Elements.{All-head, All-tail}
use Rattle.text_forms.specs.declared.lines.Reason.{Reason}
use Rattle.text_forms.specs.declared.lines.BadLine.{BadLine}
use Rattle.text_forms.specs.{Remaining, read_by, repeat, lines_of_parts}
use Rattle.text_forms.proofs.PrintedLines.{ahead}

pub line_again : {A : Type 0} (form : List ℕ → Result A Reason) (numbers : List ℕ) (line : List ℕ) (lines : List (List ℕ)) (after : Remaining) (x : A) → form line ≡ Ok x → read_by form (ahead numbers (line ∷ lines) after) ≡ Ok (x, ahead (drop 1 numbers) lines after)
line_again form numbers line lines after x h = rw h refl

-- a step reads what was printed of a part in its ranges, whatever lines follow
unfoldable pub Again : {A : Type 0} → (ℕ → Remaining → Result (A × Remaining) BadLine) → (ℕ → A → List (List ℕ)) → (A → Type 0) → ℕ → Type 0
Again {A} step lines P most = (i : ℕ) (x : A) → i < most → P x → (numbers : List ℕ) (more : List (List ℕ)) (after : Remaining) → (m : List ℕ) × (step i (ahead numbers (lines i x ++ more) after) ≡ Ok (x, ahead m more after))

-- a step that reads one line reads what was printed of it
pub line_part_again : {A : Type 0} (form : ℕ → List ℕ → Result A Reason) (text : ℕ → A → List ℕ) (P : A → Type 0) (most : ℕ) → ((i : ℕ) (x : A) → i < most → P x → form i (text i x) ≡ Ok x) → Again (λ i left. read_by (form i) left) (λ i x. text i x ∷ []) P most
unfolding Again
line_part_again form text P most again i x lt is numbers more after = (drop 1 numbers, line_again (form i) numbers (text i x) more after x (again i x lt is))

repeat_again : {A : Type 0} (step : ℕ → Remaining → Result (A × Remaining) BadLine) (lines : ℕ → A → List (List ℕ)) (P : A → Type 0) (most : ℕ) → Again step lines P most
    → (xs : List A) (from : ℕ) → from + length xs ≤ most → All P xs → (numbers : List ℕ) (more : List (List ℕ)) (after : Remaining)
    → (m : List ℕ) × (repeat (length xs) from step (ahead numbers (lines_of_parts lines from xs ++ more) after) ≡ Ok (xs, ahead m more after))
unfolding repeat Again
repeat_again step lines P most again [] from few h numbers more after = (numbers, refl)
repeat_again {A} step lines P most again (x ∷ xs) from few h numbers more after =
    let first = again from x (omega (arith, few)) (All-head P x xs h) numbers (lines_of_parts lines (from + 1) xs ++ more) after in
    let rest = repeat_again step lines P most again xs (from + 1) (omega (arith, few)) (All-tail P x xs h) first.0 more after in
    let regrouped : (lines from x ++ lines_of_parts lines (from + 1) xs) ++ more ≡ lines from x ++ (lines_of_parts lines (from + 1) xs ++ more) = append_assoc (lines from x) (lines_of_parts lines (from + 1) xs) more in
    (rest.0, ap (λ (ls : List (List ℕ)). repeat (suc (length xs)) from step (ahead numbers ls after)) regrouped ∙ rw (first.1, rest.1) refl)

-- this many parts
pub parts_again : {A : Type 0} (step : ℕ → Remaining → Result (A × Remaining) BadLine) (lines : ℕ → A → List (List ℕ)) (P : A → Type 0) (count : ℕ) → Again step lines P count
    → (xs : List A) → length xs ≡ count → All P xs → (numbers : List ℕ) (more : List (List ℕ)) (after : Remaining)
    → (m : List ℕ) × (repeat count 0 step (ahead numbers (lines_of_parts lines 0 xs ++ more) after) ≡ Ok (xs, ahead m more after))
parts_again step lines P count again xs is h numbers more after =
    let r = repeat_again step lines P count again xs 0 (omega (arith, is)) h numbers more after in
    (r.0, ap (λ (n : ℕ). repeat n 0 step (ahead numbers (lines_of_parts lines 0 xs ++ more) after)) (sym is) ∙ r.1)
