-- The element at a position of a list.
use Rattle.std.proofs.Common.{◌≡◌, ℕ, zero, suc, ◌+◌, ◌<◌, ◌≤◌, List, [], ◌∷◌, ◌++◌, length, take, refl, sym, ap, ◌∙◌, arith, Some, None, slice_get}
use Rattle.std.proofs.lemmas.List.{take_more}
use Rattle.std.proofs.lemmas.Option.{slice_get_within, get_or_from_slice_get}

module _ {A : Type 0} where
  -- the element that is there
  pub found_at : (xs : List A) (i : ℕ) → i < length xs → (x : A) × (slice_get xs i ≡ Some x)
  found_at [] i inside = absurd (omega (arith, inside))
  found_at (x ∷ xs) zero inside = (x, refl)
  found_at (x ∷ xs) (suc i) inside = found_at xs i (omega (arith, inside))

  -- the elements up to one and that one
  pub take_at : (xs : List A) (i : ℕ) (x : A) → slice_get xs i ≡ Some x → take (i + 1) xs ≡ take i xs ++ x ∷ []
  take_at xs i x at = take_more xs i x (slice_get_within xs i x at) ∙ ap (λ (y : A). take i xs ++ y ∷ []) (get_or_from_slice_get xs i x x at)

  pub same_at : (xs : List A) (i : ℕ) (x y : A) → slice_get xs i ≡ Some x → slice_get xs i ≡ Some y → x ≡ y
  same_at xs i x y at at' = let both : Some x ≡ Some y = sym at ∙ at' in cc

  -- the list up to an element, that element, and what follows it
  pub split_at : (xs : List A) (i : ℕ) (x : A) → slice_get xs i ≡ Some x → (later : List A) × (xs ≡ take i xs ++ x ∷ later)
  split_at [] i x at = let never : None ≡ Some x = at in absurd cc
  split_at (y ∷ xs) zero x at = let same : y ≡ x = cc in (xs, ap (λ (z : A). z ∷ xs) same)
  split_at (y ∷ xs) (suc i) x at = let rest = split_at xs i x at in (rest.0, ap (λ (l : List A). y ∷ l) rest.1)

  pub all_taken : (xs : List A) (n : ℕ) → length xs ≤ n → take n xs ≡ xs
  all_taken [] zero long = refl
  all_taken [] (suc n) long = refl
  all_taken (x ∷ xs) zero long = absurd (omega (arith, long))
  all_taken (x ∷ xs) (suc n) long = ap (λ (l : List A). x ∷ l) (all_taken xs n (omega (arith, long)))

  -- what follows the first elements
  pub next_is : (xs rest : List A) (k : ℕ) (x : A) → k ≤ length xs → xs ≡ take k xs ++ x ∷ rest → slice_get xs k ≡ Some x
  next_is [] rest zero x le is = absurd cc
  next_is (y ∷ xs) rest zero x le is = let same : y ≡ x = cc in ap (λ (z : A). Some z) same
  next_is [] rest (suc k) x le is = absurd (omega (arith, le))
  next_is (y ∷ xs) rest (suc k) x le is = next_is xs rest k x (omega (arith, le)) (let same : xs ≡ take k xs ++ x ∷ rest = cc in same)
