-- Elements by place, and the two that were taken from the end of a list.
use Rattle.std.proofs.Common.{◌≡◌, ℕ, zero, suc, ◌<◌, List, [], ◌∷◌, ◌++◌, length, get_or, refl, sym, ap, ◌∙◌, arith, length-append, All}
use mathlib.Core.Option.{some}
use lib.ListN.{get_elem?}

module _ {A : Type 0} where
  get_elem?-get_or : (xs : List A) (k : ℕ) (d : A) → k < length xs → get_elem? xs k ≡ some (get_or xs k d)
  get_elem?-get_or [] k d inside = absurd (omega arith)
  get_elem?-get_or (x ∷ xs) zero d inside = refl
  get_elem?-get_or (x ∷ xs) (suc k) d inside = get_elem?-get_or xs k d (omega arith)

  -- what holds at each place holds of all
  pub all_by_place : (P : A → Type 0) (xs : List A) → ((k : ℕ) (x : A) → get_elem? xs k ≡ some x → P x) → All P xs
  all_by_place P xs at k d inside = at k (get_or xs k d) (get_elem?-get_or xs k d inside)

  only_two : (zs : List A) (a b : A) → length ((zs ++ a ∷ []) ++ b ∷ []) ≡ 2 → (zs ++ a ∷ []) ++ b ∷ [] ≡ a ∷ b ∷ []
  only_two [] a b two = refl
  only_two (z ∷ zs) a b two = absurd (omega (arith, length-append (zs ++ a ∷ []) (b ∷ []), length-append zs (a ∷ [])))

  -- a list of two from which the last was taken, and then the other
  pub two_taken : (xs ys zs : List A) (a b : A) → length xs ≡ 2 → xs ≡ ys ++ b ∷ [] → ys ≡ zs ++ a ∷ [] → xs ≡ a ∷ b ∷ []
  two_taken xs ys zs a b two last first =
      let whole : xs ≡ (zs ++ a ∷ []) ++ b ∷ [] = last ∙ ap (λ (l : List A). l ++ b ∷ []) first in whole ∙ only_two zs a b (sym (ap length whole) ∙ two)
