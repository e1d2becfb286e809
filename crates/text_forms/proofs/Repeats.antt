-- Reading parts one after the other, as a loop does.
use Rattle.std.proofs.Common.{◌≡◌, ℕ, suc, ◌-◌, ◌+◌, ◌≤◌, ◌<◌, List, [], ◌∷◌, ◌++◌, Result, Ok, Err, length, take, refl, sym, ap, ◌∙◌, append_assoc, arith, set, length-set, take_all, append-nil}
use Rattle.std.proofs.lemmas.List.{take_more_set}
use Rattle.text_forms.specs.declared.lines.BadLine.{BadLine}
use Rattle.text_forms.specs.{Remaining, ◌>>=◌, repeat}

-- what was read before, and what is still read
abbrev pub with_front : {A : Type 0} → List A → Result (List A × Remaining) BadLine → Result (List A × Remaining) BadLine
with_front front read = read >>= λ x. Ok (front ++ x.0, x.1)

regroup : {A : Type 0} (front : List A) (x : A) (read : Result (List A × Remaining) BadLine) → with_front front (read >>= λ others. Ok (x ∷ others.0, others.1)) ≡ with_front (front ++ x ∷ []) read
regroup {A} front x (Ok others) = ap (λ (xs : List A). Ok (xs, others.1)) (simp append_assoc)
regroup front x (Err fault) = refl

goes_on : {A : Type 0} (step : ℕ → Remaining → Result (A × Remaining) BadLine) (front : List A) (count i : ℕ) (left : Remaining) (x : A) (after : Remaining) (total : Result (List A × Remaining) BadLine) → i < count → step i left ≡ Ok (x, after)
    → with_front front (repeat (count - i) i step left) ≡ total → with_front (front ++ x ∷ []) (repeat (count - (i + 1)) (i + 1) step after) ≡ total
unfolding repeat
goes_on step front count i left x after total lt h so_far =
    let k : count - i ≡ suc (count - (i + 1)) = omega arith in
    let one : with_front front (repeat (count - i) i step left) ≡ with_front (front ++ x ∷ []) (repeat (count - (i + 1)) (i + 1) step after) = rw (k, h) (regroup front x (repeat (count - (i + 1)) (i + 1) step after)) in
    sym one ∙ so_far

pub ends : {A : Type 0} (step : ℕ → Remaining → Result (A × Remaining) BadLine) (front : List A) (count i : ℕ) (left : Remaining) (fault : BadLine) (total : Result (List A × Remaining) BadLine) → i < count → Err fault ≡ step i left
    → with_front front (repeat (count - i) i step left) ≡ total → total ≡ Err fault
unfolding repeat
ends step front count i left fault total lt h so_far =
    let k : count - i ≡ suc (count - (i + 1)) = omega arith in
    let one : with_front front (repeat (count - i) i step left) ≡ Err fault = rw (k, ← h) refl in
    sym so_far ∙ one

is_done : {A : Type 0} (step : ℕ → Remaining → Result (A × Remaining) BadLine) (front : List A) (count i : ℕ) (left : Remaining) (total : Result (List A × Remaining) BadLine) → count ≤ i
    → with_front front (repeat (count - i) i step left) ≡ total → total ≡ Ok (front, left)
unfolding repeat
is_done {A} step front count i left total le so_far =
    let k : count - i ≡ 0 = omega arith in
    let one : with_front front (repeat (count - i) i step left) ≡ Ok (front, left) = rw k (ap (λ (xs : List A). Ok (xs, left)) (append-nil front)) in
    sym so_far ∙ one

-- a part that is written into its place
pub reads_one : {A : Type 0} (step : ℕ → Remaining → Result (A × Remaining) BadLine) (values : List A) (i : ℕ) (left : Remaining) (x : A) (after : Remaining) (total : Result (List A × Remaining) BadLine) → i < length values → Ok (x, after) ≡ step i left
    → with_front (take i values) (repeat (length values - i) i step left) ≡ total → with_front (take (i + 1) (set values i x)) (repeat (length (set values i x) - (i + 1)) (i + 1) step after) ≡ total
reads_one step values i left x after total lt h so_far = rw (take_more_set values i x lt, length-set) (goes_on step (take i values) (length values) i left x after total lt (sym h) so_far)

pub reads_all : {A : Type 0} (step : ℕ → Remaining → Result (A × Remaining) BadLine) (values : List A) (i : ℕ) (left : Remaining) (total : Result (List A × Remaining) BadLine) → length values ≤ i
    → with_front (take i values) (repeat (length values - i) i step left) ≡ total → total ≡ Ok (values, left)
reads_all {A} step values i left total le so_far = is_done step (take i values) (length values) i left total le so_far ∙ ap (λ (xs : List A). Ok (xs, left)) (take_all i values le)
