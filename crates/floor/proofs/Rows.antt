-- Lists side by side, and one of them after a change at one place.
use Rattle.std.proofs.Common.{◌≡◌, ◌≢◌, ℕ, zero, suc, ◌+◌, ◌<◌, Bool, true, false, cond, eqb, List, [], ◌∷◌, ◌++◌, Option, Some, None, slice_get, map, length, get_or, set, sym, refl, ap, ◌∙◌, arith, inl, inr, option_and_then, option_map, append-nil, get_or-set_same, get_or-set_other}
use Rattle.std.specs.List.{cons_option, range_with_len}
use Rattle.std.proofs.lemmas.List.{length-map, get_or-map, map-set, set-get_or}
use Rattle.std.proofs.lemmas.Bool.Decides.{eqb_tells}

module _ {A B : Type 0} where
  -- what stands at a place of a list that is read by a function
  pub map_get : (f : A → B) (xs : List A) (k : ℕ) (x : A) (d : B) → k < length xs → x ≡ get_or xs k x → get_or (map f xs) k d ≡ f x
  map_get f xs k x d inside is = get_or-map f xs k x d inside ∙ ap f (sym is)

  -- what a place of a list that is read by a function has, where there is such a place
  pub map_at : (f : A → B) (xs : List A) (k : ℕ) (x : A) → k < length xs → x ≡ get_or xs k x → slice_get (map f xs) k ≡ Some (f x)
  map_at f [] k x inside is = absurd (omega arith)
  map_at f (y ∷ ys) zero x inside is = ap (λ (z : A). Some (f z)) (sym is)
  map_at f (y ∷ ys) (suc k) x inside is = map_at f ys k x (omega arith) is

  pub map_set : (f : A → B) (xs : List A) (k : ℕ) (x : A) (y : B) → f x ≡ y → map f (set xs k x) ≡ set (map f xs) k y
  map_set f xs k x y is = map-set f xs k x ∙ ap (λ (z : B). set (map f xs) k z) is

  pub map_set_same : (f : A → B) (xs : List A) (k : ℕ) (x x' : A) → k < length xs → x ≡ get_or xs k x → f x' ≡ f x → map f (set xs k x') ≡ map f xs
  map_set_same f xs k x x' inside is same = map_set f xs k x' (f x) same ∙ (ap (λ (z : B). set (map f xs) k z) (sym (map_get f xs k x (f x) inside is)) ∙ set-get_or (map f xs) k (f x))

module _ {A B C : Type 0} where
  -- two lists that read alike read alike at each place
  pub same_at : (f : A → C) (h : B → C) (xs : List A) (ys : List B) (k : ℕ) (x : A) (y : B) → map f xs ≡ map h ys → k < length xs → x ≡ get_or xs k x → y ≡ get_or ys k y → f x ≡ h y
  same_at f h xs ys k x y same inside at_x at_y =
      let long : length xs ≡ length ys = sym (length-map xs f) ∙ (ap length same ∙ length-map ys h) in
      sym (map_get f xs k x (f x) inside at_x) ∙ (ap (λ (l : List C). get_or l k (f x)) same ∙ map_get h ys k y (f x) (omega arith) at_y)

  -- what is read of what was read
  pub map_of : (f : B → C) (h : A → B) (xs : List A) → map f (map h xs) ≡ map (λ x. f (h x)) xs
  map_of f h [] = refl
  map_of f h (x ∷ xs) = ap (λ (l : List C). f (h x) ∷ l) (map_of f h xs)

module _ {A B C D : Type 0} where
  -- what is read at a place of a list in two ways that agree
  pub read_twice : (f : A → B) (h : A → C) (by_f : B → Option D) (by_h : C → D) → ((x : A) → by_f (f x) ≡ Some (by_h (h x))) → (xs : List A) (k : ℕ)
      → option_and_then by_f (slice_get (map f xs) k) ≡ option_map by_h (slice_get (map h xs) k)
  read_twice f h by_f by_h same [] k = refl
  read_twice f h by_f by_h same (x ∷ xs) zero = same x
  read_twice f h by_f by_h same (x ∷ xs) (suc k) = read_twice f h by_f by_h same xs k

module _ {A : Type 0} where
  -- what a place of a list has that is made of numbers in order
  pub at_numbered : (f : ℕ → A) (from n k : ℕ) → k < n → slice_get (map f (range_with_len from n)) k ≡ Some (f (from + k))
  at_numbered f from zero k inside = absurd (omega arith)
  at_numbered f from (suc n) zero inside = ap (λ (j : ℕ). Some (f j)) (omega arith)
  at_numbered f from (suc n) (suc k) inside = at_numbered f (from + 1) n k (omega arith) ∙ ap (λ (j : ℕ). Some (f j)) (omega arith)

module _ {A : Type 0} where
  one_if : (b : Bool) (x : A) → b ≡ true → cons_option (cond b (Some x) None) [] ≡ x ∷ []
  one_if true x is = refl
  one_if false x is = absurd (cc)

  none_if : (b : Bool) (x : A) → b ≡ false → cons_option (cond b (Some x) None) [] ≡ []
  none_if true x is = absurd (cc)
  none_if false x is = refl

  -- the rows of a table, one of which has an element more
  pub row_more : (rows : List (List A)) (place good : ℕ) (x : A) → place < length rows
      → get_or (set rows place (get_or rows place [] ++ x ∷ [])) good [] ≡ get_or rows good [] ++ cons_option (cond (eqb place good) (Some x) None) []
  row_more rows place good x inside = elim (eqb_tells place good) [
    | inl here ↦
        ap (λ (g : ℕ). get_or (set rows place (get_or rows place [] ++ x ∷ [])) g []) (sym here.1)
        ∙ get_or-set_same rows place (get_or rows place [] ++ x ∷ []) [] inside
        ∙ ap (λ (g : ℕ). get_or rows g [] ++ x ∷ []) here.1
        ∙ ap (λ (l : List A). get_or rows good [] ++ l) (sym (one_if (eqb place good) x here.0))
    | inr away ↦
        let ne : good ≢ place = λ e. away.1 (sym e) in
        get_or-set_other rows place good (get_or rows place [] ++ x ∷ []) [] ne
        ∙ sym (append-nil (get_or rows good []))
        ∙ ap (λ (l : List A). get_or rows good [] ++ l) (sym (none_if (eqb place good) x away.0))
  ]
