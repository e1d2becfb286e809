-- What is left of a caller's part of a history.
use Rattle.std.proofs.Common.{◌≡◌, ◌≢◌, ℕ, zero, suc, ◌+◌, List, [], ◌∷◌, Bool, true, false, cond, drop, Some, slice_get, sym, ap, ◌∙◌, arith, eq-eqb, ne_eqb, ◌==◌, drop-drop}
use Rattle.turn_lock.specs.Part.{part_from}
use Rattle.link_audit.specs.Ahead.{rest_of, HasNext}

module _ {E : Type 0} where
  abbrev first_position : List (ℕ × E) → ℕ
  first_position [] = 0
  first_position (p ∷ ps) = p.0

  abbrev first_entry : E → List (ℕ × E) → E
  first_entry d [] = d
  first_entry d (p ∷ ps) = p.1

  pub same_entry : (n p : ℕ) (x e : E) (xs ys : List (ℕ × E)) → (n, x) ∷ xs ≡ (p, e) ∷ ys → x ≡ e
  same_entry n p x e xs ys is = ap (first_entry x) is

  pub same_position : (n p : ℕ) (x e : E) (xs ys : List (ℕ × E)) → (n, x) ∷ xs ≡ (p, e) ∷ ys → n ≡ p
  same_position n p x e xs ys is = ap first_position is

module _ {E : Type 0} (caller_of : E → ℕ) (agent : ℕ) where
  -- behind the first entry of a part comes the part of what stands behind it
  part_next : (xs : List E) (n p : ℕ) (e : E) (ys : List (ℕ × E)) → part_from caller_of agent n xs ≡ (p, e) ∷ ys
      → (k : ℕ) × (p ≡ n + k) × (ys ≡ part_from caller_of agent (p + 1) (drop (suc k) xs))
  part_next [] n p e ys is = absurd cc
  part_next (x ∷ xs) n p e ys is = by_test (caller_of x == agent) is (λ h. part_next xs (n + 1) p e ys h)
    where
      by_test : (b : Bool) → cond b ((n, x) ∷ part_from caller_of agent (n + 1) xs) (part_from caller_of agent (n + 1) xs) ≡ (p, e) ∷ ys
          → (part_from caller_of agent (n + 1) xs ≡ (p, e) ∷ ys → (k : ℕ) × (p ≡ (n + 1) + k) × (ys ≡ part_from caller_of agent (p + 1) (drop (suc k) xs)))
          → (k : ℕ) × (p ≡ n + k) × (ys ≡ part_from caller_of agent (p + 1) (drop (suc k) (x ∷ xs)))
      by_test true h later =
          let first : n ≡ p = same_position n p x e (part_from caller_of agent (n + 1) xs) ys h in
          let rest : part_from caller_of agent (n + 1) xs ≡ ys = ap (drop 1) h in
          (0, omega (arith, first), sym rest ∙ ap (λ (m : ℕ). part_from caller_of agent (m + 1) xs) first)
      by_test false h later =
          let more = later h in
          (suc more.0, (let at = more.1 in omega (arith, at)), more.2)

  -- the same of what is left from a position on
  pub rest_next : (history : List E) (n p : ℕ) (e : E) (ys : List (ℕ × E)) → rest_of caller_of agent n history ≡ (p, e) ∷ ys → ys ≡ rest_of caller_of agent (p + 1) history
  rest_next history n p e ys is =
      let more = part_next (drop n history) n p e ys is in
      let at : n + suc more.0 ≡ p + 1 = (let h = more.1 in omega (arith, h)) in
      more.2 ∙ ap (part_from caller_of agent (p + 1)) (drop-drop (suc more.0) n history ∙ ap (λ (m : ℕ). drop m history) at)

  pub has_next : (history : List E) (n p : ℕ) (e : E) (ys : List (ℕ × E)) → rest_of caller_of agent n history ≡ (p, e) ∷ ys → HasNext caller_of agent n history p e
  has_next history n p e ys is = is ∙ ap (λ (l : List (ℕ × E)). (p, e) ∷ l) (rest_next history n p e ys is)

  drop_suc : (history : List E) (n : ℕ) (e : E) → slice_get history n ≡ Some e → drop n history ≡ e ∷ drop (suc n) history
  drop_suc [] n e at = absurd cc
  drop_suc (x ∷ history) zero e at = let same : x ≡ e = cc in ap (λ (y : E). y ∷ history) same
  drop_suc (x ∷ history) (suc n) e at = drop_suc history n e at

  -- an entry at a position: it is the next one, or is passed over
  drop_here : (history : List E) (n : ℕ) (e : E) → slice_get history n ≡ Some e → drop n history ≡ e ∷ drop (n + 1) history
  drop_here history n e at = drop_suc history n e at ∙ ap (λ (m : ℕ). e ∷ drop m history) (let next : suc n ≡ n + 1 = omega arith in next)

  pub rest_here : (history : List E) (n : ℕ) (e : E) → slice_get history n ≡ Some e → caller_of e ≡ agent → HasNext caller_of agent n history n e
  rest_here history n e at own =
      ap (part_from caller_of agent n) (drop_here history n e at)
      ∙ ap (λ b. cond b ((n, e) ∷ rest_of caller_of agent (n + 1) history) (rest_of caller_of agent (n + 1) history)) (eq-eqb (caller_of e) agent own)

  pub rest_there : (history : List E) (n : ℕ) (e : E) → slice_get history n ≡ Some e → caller_of e ≢ agent → rest_of caller_of agent n history ≡ rest_of caller_of agent (n + 1) history
  rest_there history n e at other =
      ap (part_from caller_of agent n) (drop_here history n e at)
      ∙ ap (λ b. cond b ((n, e) ∷ rest_of caller_of agent (n + 1) history) (rest_of caller_of agent (n + 1) history)) (ne_eqb (caller_of e) agent other)
