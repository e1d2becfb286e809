-- Tables whose rows each get one element more.
use Rattle.std.proofs.Common.{◌≡◌, ℕ, zero, suc, ◌<◌, List, [], ◌∷◌, ◌++◌, map, fold, length, get_or, set, sym, refl, ap, ◌∙◌, subst, arith, length-append, append_assoc, append-nil}
use Rattle.std.proofs.lemmas.List.{length-map, get_or_at}
use Rattle.floor.proofs.Rows.{map_get, map_set}
use mathlib.Core.Option.{some, some-injective, some-ne-none}
use lib.ListN.{get_elem?}
use Rattle.floor.specs.Rows.{with_each}

module _ {A : Type 0} where
  pub length-with_each : (rows : List (List A)) (xs : List A) → length (with_each rows xs) ≡ length rows
  length-with_each [] xs = refl
  length-with_each (row ∷ rows) [] = refl
  length-with_each (row ∷ rows) (x ∷ xs) = ap suc (length-with_each rows xs)

  pub with_none : (rows : List (List A)) → with_each rows [] ≡ rows
  with_none [] = refl
  with_none (row ∷ rows) = refl

  -- the next row gets its element
  pub with_each_more : (rows : List (List A)) (xs : List A) (x : A) → length xs < length rows
      → set (with_each rows xs) (length xs) (get_or (with_each rows xs) (length xs) [] ++ x ∷ []) ≡ with_each rows (xs ++ x ∷ [])
  with_each_more [] xs x inside = absurd (omega arith)
  with_each_more (row ∷ rows) [] x inside = ap (λ (l : List (List A)). (row ++ x ∷ []) ∷ l) (sym (with_none rows))
  with_each_more (row ∷ rows) (y ∷ xs) x inside = ap (λ (l : List (List A)). (row ++ y ∷ []) ∷ l) (with_each_more rows xs x (omega arith))

  -- each row is the one before, with one element more
  pub with_each_at : (rows : List (List A)) (xs : List A) (k : ℕ) (after : List A) → length rows ≡ length xs → get_elem? (with_each rows xs) k ≡ some after
      → (row : List A) × (x : A) × (get_elem? rows k ≡ some row) × (get_elem? xs k ≡ some x) × (after ≡ row ++ x ∷ [])
  with_each_at [] xs k after long at = absurd (some-ne-none after (sym at))
  with_each_at (row ∷ rows) [] k after long at = absurd (omega arith)
  with_each_at (row ∷ rows) (x ∷ xs) zero after long at = (row, x, refl, refl, sym (some-injective (row ++ x ∷ []) after at))
  with_each_at (row ∷ rows) (x ∷ xs) (suc k) after long at = with_each_at rows xs k after (omega arith) at

  get_or-with_each : (rows : List (List A)) (xs : List A) (k : ℕ) (d : A) → length xs ≡ length rows → k < length rows → get_or (with_each rows xs) k [] ≡ get_or rows k [] ++ get_or xs k d ∷ []
  get_or-with_each [] xs k d long inside = absurd (omega arith)
  get_or-with_each (row ∷ rows) [] k d long inside = absurd (omega arith)
  get_or-with_each (row ∷ rows) (x ∷ xs) zero d long inside = refl
  get_or-with_each (row ∷ rows) (x ∷ xs) (suc k) d long inside = get_or-with_each rows xs k d (omega arith) (omega arith)

  -- each row has one element more of each list
  pub gathered_at : {D : Type 0} (f : D → List A) (ds : List D) (rows : List (List A)) (k : ℕ) (d : A) → ((i : ℕ) (x : D) → get_elem? ds i ≡ some x → length (f x) ≡ length rows) → k < length rows
      → get_or (fold (λ (l : List (List A)) (x : D). with_each l (f x)) rows ds) k [] ≡ get_or rows k [] ++ map (λ (x : D). get_or (f x) k d) ds
  gathered_at f [] rows k d long inside = sym (append-nil (get_or rows k []))
  gathered_at {D = D} f (x ∷ ds) rows k d long inside =
      let same = length-with_each rows (f x) in
      gathered_at f ds (with_each rows (f x)) k d (λ i y at. long (suc i) y at ∙ sym same) (omega arith)
      ∙ (ap (λ (l : List A). l ++ map (λ (y : D). get_or (f y) k d) ds) (get_or-with_each rows (f x) k d (long 0 x refl) inside)
      ∙ append_assoc (get_or rows k []) (get_or (f x) k d ∷ []) (map (λ (y : D). get_or (f y) k d) ds))

  pub at_middle : (l r : List A) (x : A) → get_elem? (l ++ x ∷ r) (length l) ≡ some x
  at_middle [] r x = refl
  at_middle (y ∷ l) r x = at_middle l r x

module _ {A B : Type 0} where
  -- the next row of a table that is kept in another form gets its element
  pub row_more : (f : B → List A) (table : List B) (rows : List (List A)) (given : List A) (k : ℕ) (row row' : B) (x : A) → map f table ≡ with_each rows given → k ≡ length given
      → length given < length rows → row ≡ get_or table k row → f row' ≡ f row ++ x ∷ [] → map f (set table k row') ≡ with_each rows (given ++ x ∷ [])
  row_more f table rows given k row row' x is count inside at new =
      let long : length table ≡ length rows = sym (length-map table f) ∙ (ap length is ∙ length-with_each rows given) in
      let before : f row ≡ get_or (with_each rows given) k [] = sym (map_get f table k row [] (omega arith) at) ∙ ap (λ (l : List (List A)). get_or l k []) is in
      map_set f table k row' (get_or (with_each rows given) k [] ++ x ∷ []) (new ∙ ap (λ (l : List A). l ++ x ∷ []) before)
      ∙ (ap (λ (l : List (List A)). set l k (get_or (with_each rows given) k [] ++ x ∷ [])) is
      ∙ (ap (λ (j : ℕ). set (with_each rows given) j (get_or (with_each rows given) j [] ++ x ∷ [])) count ∙ with_each_more rows given x inside))

  -- what holds of the elements at each place of two lists, with one more of each
  pub pairs_more : (P : A → B → Type 0) (xs : List A) (ys : List B) (x : A) (y : B) → length ys ≡ length xs → ((k : ℕ) (a : A) (b : B) → get_elem? xs k ≡ some a → get_elem? ys k ≡ some b → P a b) → P x y
      → (k : ℕ) (a : A) (b : B) → get_elem? (xs ++ x ∷ []) k ≡ some a → get_elem? (ys ++ y ∷ []) k ≡ some b → P a b
  pairs_more P [] [] x y long old new zero a b at_a at_b = subst (λ (t : A × B). P t.0 t.1) (λ i. (some-injective x a at_a i, some-injective y b at_b i)) new
  pairs_more P [] [] x y long old new (suc k) a b at_a at_b = absurd (some-ne-none a (sym at_a))
  pairs_more P [] (z ∷ ys) x y long old new k a b at_a at_b = absurd (omega arith)
  pairs_more P (w ∷ xs) [] x y long old new k a b at_a at_b = absurd (omega arith)
  pairs_more P (w ∷ xs) (z ∷ ys) x y long old new zero a b at_a at_b = old 0 a b at_a at_b
  pairs_more P (w ∷ xs) (z ∷ ys) x y long old new (suc k) a b at_a at_b = pairs_more P xs ys x y (omega arith) (λ j c d. old (suc j) c d) new k a b at_a at_b

module _ {A : Type 0} where
  pub shorter : (xs l r : List A) (x : A) → xs ≡ l ++ x ∷ r → length l < length xs
  shorter xs l r x is = let long = ap length is ∙ length-append l (x ∷ r) in omega arith

  pub at_next : (xs l r : List A) (x : A) → xs ≡ l ++ x ∷ r → get_elem? xs (length l) ≡ some x
  at_next xs l r x is = ap (λ (m : List A). get_elem? m (length l)) is ∙ at_middle l r x

  pub get_next : (xs l r : List A) (x : A) → xs ≡ l ++ x ∷ r → x ≡ get_or xs (length l) x
  get_next xs l r x is = sym (ap (λ (m : List A). get_or m (length l) x) is ∙ get_or_at l x r x (length l) refl)
