-- Lists by place: sums after a change at one place, and the last place of a longer list.
use Rattle.std.proofs.Common.{◌≡◌, ℕ, zero, suc, ◌+◌, ◌<◌, ◌≤◌, List, [], ◌∷◌, ◌++◌, length, set, sum_by, sym, refl, ap, ◌∙◌, subst, arith, ◌⊎◌, inl, inr, ⊎_elim}
use Rattle.std.proofs.lemmas.List.Sums.{sum_by-cons}
use mathlib.Core.Option.{some, some-injective, some-ne-none}
use lib.ListN.{get_elem?}

module _ {A : Type 0} where
  pub sum_by-set : (f : A → ℕ) (xs : List A) (i : ℕ) (a b : A) → get_elem? xs i ≡ some a → sum_by f (set xs i b) + f a ≡ sum_by f xs + f b
  sum_by-set f [] i a b e = absurd (some-ne-none a (sym e))
  sum_by-set f (x ∷ xs) zero a b e = let same : f x ≡ f a = ap f (some-injective x a e) in omega (arith, sum_by-cons f x xs, sum_by-cons f b xs)
  sum_by-set f (x ∷ xs) (suc i) a b e = omega (arith, sum_by-set f xs i a b e, sum_by-cons f x xs, sum_by-cons f x (set xs i b))

  -- a sum of numbers that are at most 1
  pub sum_by-le_length : (f : A → ℕ) (xs : List A) → ((i : ℕ) (a : A) → get_elem? xs i ≡ some a → f a ≤ 1) → sum_by f xs ≤ length xs
  sum_by-le_length f [] h = omega arith
  sum_by-le_length f (x ∷ xs) h = omega (arith, h 0 x refl, sum_by-le_length f xs (λ i a e. h (suc i) a e), sum_by-cons f x xs)

  pub le-sum_by : (f : A → ℕ) (xs : List A) (i : ℕ) (a : A) → get_elem? xs i ≡ some a → f a ≤ sum_by f xs
  le-sum_by f [] i a e = absurd (some-ne-none a (sym e))
  le-sum_by f (x ∷ xs) zero a e = let same : f x ≡ f a = ap f (some-injective x a e) in omega (arith, sum_by-cons f x xs)
  le-sum_by f (x ∷ xs) (suc i) a e = omega (arith, le-sum_by f xs i a e, sum_by-cons f x xs)

  pub place_below : (xs : List A) (i : ℕ) (a : A) → get_elem? xs i ≡ some a → i < length xs
  place_below [] i a e = absurd (some-ne-none a (sym e))
  place_below (x ∷ xs) zero a e = omega arith
  place_below (x ∷ xs) (suc i) a e = omega (arith, place_below xs i a e)

  -- what stands in a list with one element more
  pub at_end : (xs : List A) (x a : A) (i : ℕ) → get_elem? (xs ++ x ∷ []) i ≡ some a → (get_elem? xs i ≡ some a) ⊎ ((i ≡ length xs) × (x ≡ a))
  at_end [] x a zero e = inr (refl, some-injective x a e)
  at_end [] x a (suc i) e = absurd (some-ne-none a (sym e))
  at_end (y ∷ ys) x a zero e = inl e
  at_end (y ∷ ys) x a (suc i) e = ⊎_elim inl (λ (t : (i ≡ length ys) × (x ≡ a)). inr (ap suc t.0, t.1)) (at_end ys x a i e)

  pub each_snoc : (xs ys : List A) (x : A) (P : ℕ → A → Type 0) → ys ≡ xs ++ x ∷ [] → ((i : ℕ) (a : A) → get_elem? xs i ≡ some a → P i a) → P (length xs) x
      → (i : ℕ) (a : A) → get_elem? ys i ≡ some a → P i a
  each_snoc xs ys x P is old new i a e = ⊎_elim (λ (t : get_elem? xs i ≡ some a). old i a t)
      (λ (t : (i ≡ length xs) × (x ≡ a)). subst (λ (p : ℕ × A). P p.0 p.1) (λ k. (sym t.0 k, t.1 k)) new)
      (at_end xs x a i (ap (λ (q : List A). get_elem? q i) (sym is) ∙ e))

  pub at_only : (x a : A) (i : ℕ) → get_elem? (x ∷ []) i ≡ some a → (i ≡ 0) × (x ≡ a)
  at_only x a zero e = (refl, some-injective x a e)
  at_only x a (suc i) e = absurd (some-ne-none a (sym e))

  pub only_of : (xs : List A) → length xs ≡ 1 → (a : A) × (xs ≡ a ∷ [])
  only_of [] e = absurd (omega arith)
  only_of (x ∷ []) e = (x, refl)
  only_of (x ∷ y ∷ xs) e = absurd (omega arith)
