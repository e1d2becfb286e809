-- Parts of a history that has one entry more, and the nine callers' parts of one history.
use Rattle.std.proofs.Common.{◌≡◌, ◌≢◌, ℕ, zero, suc, ◌+◌, ◌<◌, ◌≤◌, eqb, cond, List, [], ◌∷◌, ◌++◌, length, sym, refl, ap, ◌∙◌, arith, eq-eqb, ne_eqb}
use mathlib.Core.Option.{some, some-injective, some-ne-none}
use mathlib.Core.Logic.{dite}
use native.Mathlib.Decide.{ℕ_discrete}
use lib.ListN.{get_elem?}
use Rattle.std.specs.List.{AllByRecursion}
use Rattle.turn_lock.specs.Part.{part_from, part}

module _ {E : Type 0} (caller_of : E → ℕ) where
  mine_from : (c n : ℕ) (h : List E) (e : E) → caller_of e ≡ c → part_from caller_of c n (h ++ e ∷ []) ≡ part_from caller_of c n h ++ (n + length h, e) ∷ []
  mine_from c n [] e is = rw (eq-eqb (caller_of e) c is) (ap (λ (k : ℕ). (k, e) ∷ []) (omega arith))
  mine_from c n (x ∷ h) e is = dite (ℕ_discrete (caller_of x) c)
      (λ y. rw (eq-eqb (caller_of x) c y) (ap (λ (l : List (ℕ × E)). (n, x) ∷ l) (mine_from c (n + 1) h e is)
      ∙ ap (λ (k : ℕ). (n, x) ∷ part_from caller_of c (n + 1) h ++ (k, e) ∷ []) (omega arith)))
      (λ y. rw (ne_eqb (caller_of x) c y) (mine_from c (n + 1) h e is ∙ ap (λ (k : ℕ). part_from caller_of c (n + 1) h ++ (k, e) ∷ []) (omega arith)))

  others_from : (c n : ℕ) (h : List E) (e : E) → caller_of e ≢ c → part_from caller_of c n (h ++ e ∷ []) ≡ part_from caller_of c n h
  others_from c n [] e is = rw (ne_eqb (caller_of e) c is) refl
  others_from c n (x ∷ h) e is = dite (ℕ_discrete (caller_of x) c)
      (λ y. rw (eq-eqb (caller_of x) c y) (ap (λ (l : List (ℕ × E)). (n, x) ∷ l) (others_from c (n + 1) h e is)))
      (λ y. rw (ne_eqb (caller_of x) c y) (others_from c (n + 1) h e is))

  -- an entry of the caller comes at the end of its part
  pub part_mine : (h : List E) (e : E) (c : ℕ) → caller_of e ≡ c → part caller_of (h ++ e ∷ []) c ≡ part caller_of h c ++ (length h, e) ∷ []
  part_mine h e c is = mine_from c 0 h e is ∙ ap (λ (k : ℕ). part caller_of h c ++ (k, e) ∷ []) (omega arith)

  -- an entry of another changes nothing
  pub part_other : (h : List E) (e : E) (c : ℕ) → caller_of e ≢ c → part caller_of (h ++ e ∷ []) c ≡ part caller_of h c
  part_other h e c is = others_from c 0 h e is

  below_cons : (n : ℕ) (x : E) (l : List (ℕ × E)) (bound : ℕ) → n < bound → ((k : ℕ) (p : ℕ × E) → get_elem? l k ≡ some p → p.0 < bound)
      → (k : ℕ) (p : ℕ × E) → get_elem? ((n, x) ∷ l) k ≡ some p → p.0 < bound
  below_cons n x l bound first later zero p e = let same : n ≡ p.0 = ap (λ (q : ℕ × E). q.0) (some-injective (n, x) p e) in omega arith
  below_cons n x l bound first later (suc k) p e = later k p e

  below_from : (c n : ℕ) (h : List E) (k : ℕ) (p : ℕ × E) → get_elem? (part_from caller_of c n h) k ≡ some p → p.0 < n + length h
  below_from c n [] k p e = absurd (some-ne-none p (sym e))
  below_from c n (x ∷ h) k p e =
      let later : (k : ℕ) (p : ℕ × E) → get_elem? (part_from caller_of c (n + 1) h) k ≡ some p → p.0 < n + length (x ∷ h) =
      λ k p e. let below = below_from c (n + 1) h k p e in omega arith in
      dite (ℕ_discrete (caller_of x) c)
      (λ y. let mine : part_from caller_of c n (x ∷ h) ≡ (n, x) ∷ part_from caller_of c (n + 1) h = rw (eq-eqb (caller_of x) c y) refl in
      below_cons n x (part_from caller_of c (n + 1) h) (n + length (x ∷ h)) (omega arith) later k p (ap (λ (l : List (ℕ × E)). get_elem? l k) (sym mine) ∙ e))
      (λ y. let other : part_from caller_of c n (x ∷ h) ≡ part_from caller_of c (n + 1) h = rw (ne_eqb (caller_of x) c y) refl in
      later k p (ap (λ (l : List (ℕ × E)). get_elem? l k) (sym other) ∙ e))

  -- the positions of a part are below the length of the history
  pub part_below : (h : List E) (c k : ℕ) (p : ℕ × E) → get_elem? (part caller_of h c) k ≡ some p → p.0 < length h
  part_below h c k p e = omega (arith, below_from c 0 h k p e)

-- the sum over nine callers
abbrev pub nine : (ℕ → ℕ) → ℕ
nine f = f 0 + f 1 + f 2 + f 3 + f 4 + f 5 + f 6 + f 7 + f 8

is_at : ℕ → ℕ → ℕ
is_at b c = cond (eqb b c) 1 0

nine_once : (b : ℕ) → b ≤ 8 → nine (is_at b) ≡ 1
unfolding is_at
nine_once zero h = refl
nine_once (suc zero) h = refl
nine_once (suc (suc zero)) h = refl
nine_once (suc (suc (suc zero))) h = refl
nine_once (suc (suc (suc (suc zero)))) h = refl
nine_once (suc (suc (suc (suc (suc zero))))) h = refl
nine_once (suc (suc (suc (suc (suc (suc zero)))))) h = refl
nine_once (suc (suc (suc (suc (suc (suc (suc zero))))))) h = refl
nine_once (suc (suc (suc (suc (suc (suc (suc (suc zero)))))))) h = refl
nine_once (suc (suc (suc (suc (suc (suc (suc (suc (suc b))))))))) h = absurd (omega arith)

module _ {E : Type 0} (caller_of : E → ℕ) where
  long : (c n : ℕ) (x : E) (h : List E) → length (part_from caller_of c n (x ∷ h)) ≡ is_at (caller_of x) c + length (part_from caller_of c (n + 1) h)
  unfolding is_at
  long c n x h = dite (ℕ_discrete (caller_of x) c) (λ y. rw (eq-eqb (caller_of x) c y) (omega arith)) (λ y. rw (ne_eqb (caller_of x) c y) (omega arith))

  all_from : (n : ℕ) (h : List E) → AllByRecursion (λ e. caller_of e ≤ 8) h → length h ≡ nine (λ c. length (part_from caller_of c n h))
  all_from n [] small = refl
  all_from n (x ∷ h) small =
      omega (arith, all_from (n + 1) h small.1, nine_once (caller_of x) small.0, long 0 n x h, long 1 n x h, long 2 n x h, long 3 n x h, long 4 n x h, long 5 n x h, long 6 n x h, long 7 n x h, long 8 n x h)

  -- if only nine callers have entries, their parts have as many entries as the history
  pub nine_parts : (h : List E) → AllByRecursion (λ e. caller_of e ≤ 8) h → length h ≡ nine (λ c. length (part caller_of h c))
  nine_parts h small = all_from 0 h small
