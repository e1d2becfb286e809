-- What is known of each item of a list, item by item.
use Rattle.std.proofs.Common.{◌≡◌, ℕ, suc, List, [], ◌∷◌, refl, Some, slice_get}
use Rattle.std.specs.List.{AllByRecursion}

pub both_all : {A : Type 0} (P Q R : A → Type 0) → ((x : A) → P x → Q x → R x) → (xs : List A) → AllByRecursion P xs → AllByRecursion Q xs → AllByRecursion R xs
both_all P Q R make [] h k = tt
both_all P Q R make (x ∷ xs) h k = (make x h.0 k.0, both_all P Q R make xs h.1 k.1)

pub all_from : {A : Type 0} (P : A → Type 0) (xs : List A) → ((i : ℕ) (x : A) → slice_get xs i ≡ Some x → P x) → AllByRecursion P xs
all_from P [] each = tt
all_from P (x ∷ xs) each = (each 0 x refl, all_from P xs (λ i y found. each (suc i) y found))
