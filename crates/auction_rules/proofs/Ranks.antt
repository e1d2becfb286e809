-- Among elements in a strict total order, min(k, their number) have fewer than k predecessors.
use Rattle.std.proofs.Common.{◌≡◌, ℕ, zero, suc, ◌+◌, ◌<◌, ◌≤◌, min, Bool, true, false, cond, List, [], ◌∷◌, length, refl, sym, ap, ◌∙◌, subst, arith, inl, inr, ◌⊎◌, count_by, nat_lt}
use Rattle.std.specs.Prelude.{⊤}
use Rattle.std.proofs.lemmas.Bool.Decides.{nat_tests}
use Rattle.std.proofs.lemmas.List.Sums.{sum_by-cons, count_by-le-length}

-- an element of the list
abbrev pub In : {A : Type 0} → A → List A → Type 0
In u [] = ⊥
In u (x ∷ xs) = (u ≡ x) ⊎ In u xs

nothing_more : (n : ℕ) → 0 + n ≡ n
nothing_more n = omega arith

pub count-cons : {A : Type 0} (p : A → Bool) (x : A) (xs : List A) → count_by p (x ∷ xs) ≡ cond (p x) 1 0 + count_by p xs
count-cons p x xs = sum_by-cons (λ y. cond (p y) 1 0) x xs

pub at_most_one : (b : Bool) → cond b 1 0 ≤ 1
at_most_one true = omega arith
at_most_one false = omega arith

pub yes_is_one : (b : Bool) → b ≡ true → ◌≡◌ {A = ℕ} (cond b 1 0) 1
yes_is_one b h = rw h refl

pub no_is_none : (b : Bool) → b ≡ false → ◌≡◌ {A = ℕ} (cond b 1 0) 0
no_is_none b h = rw h refl

bits_le : (a b : Bool) → (a ≡ true → b ≡ true) → cond a 1 0 ≤ cond b 1 0
bits_le true true f = omega arith
bits_le true false f = absurd (let e = f refl in cc)
bits_le false b f = omega arith

pub count_same : {A : Type 0} (p q : A → Bool) (xs : List A) → ((x : A) → In x xs → p x ≡ q x) → count_by p xs ≡ count_by q xs
count_same p q [] f = refl
count_same p q (x ∷ xs) f =
    count-cons p x xs ∙ rw (f x (inl refl), count_same p q xs (λ y h. f y (inr h))) (sym (count-cons q x xs))

pub count_le : {A : Type 0} (p q : A → Bool) (xs : List A) → ((x : A) → In x xs → p x ≡ true → q x ≡ true) → count_by p xs ≤ count_by q xs
count_le p q [] f = omega arith
count_le p q (x ∷ xs) f = omega (arith, count-cons p x xs, count-cons q x xs, bits_le (p x) (q x) (f x (inl refl)), count_le p q xs (λ y h. f y (inr h)))

pub count_less : {A : Type 0} (p q : A → Bool) (u : A) (xs : List A) → In u xs → p u ≡ false → q u ≡ true → ((x : A) → In x xs → p x ≡ true → q x ≡ true) → count_by p xs < count_by q xs
count_less p q u [] is out within f = absurd is
count_less p q u (x ∷ xs) (inl same) out within f =
    let no_here : p x ≡ false = subst (λ (y : _). p y ≡ false) same out in
    let yes_here : q x ≡ true = subst (λ (y : _). q y ≡ true) same within in
    let first : ◌≡◌ {A = ℕ} (cond (p x) 1 0) 0 = rw no_here refl in
    let second : ◌≡◌ {A = ℕ} (cond (q x) 1 0) 1 = rw yes_here refl in
    omega (arith, count-cons p x xs, count-cons q x xs, first, second, count_le p q xs (λ y h. f y (inr h)))
count_less p q u (x ∷ xs) (inr is) out within f =
    omega (arith, count-cons p x xs, count-cons q x xs, bits_le (p x) (q x) (f x (inl refl)), count_less p q u xs is out within (λ y h. f y (inr h)))

module _ {A : Type 0} (before : A → A → Bool) (not_self : (x : A) → before x x ≡ false) (through : (x y z : A) → before x y ≡ true → before y z ≡ true → before x z ≡ true) where
  -- how many of the elements come before one
  abbrev pub rank : List A → A → ℕ
  rank xs x = count_by (λ y. before y x) xs

  -- of the first and each later element one comes before the other, and so on
  abbrev pub AreOrdered : List A → Type 0
  AreOrdered [] = ⊤
  AreOrdered (x ∷ xs) = ((y : A) → In y xs → before x y ≡ false → before y x ≡ true) × AreOrdered xs

  -- what comes after x has at least the rank of x, and what comes before it a lower one
  rank_after : (x u : A) (xs : List A) → before x u ≡ true → rank xs x ≤ rank xs u
  rank_after x u xs h = count_le (λ y. before y x) (λ y. before y u) xs (λ y is k. through y x u k h)

  rank_before : (x u : A) (xs : List A) → In u xs → before u x ≡ true → rank xs u < rank xs x
  rank_before x u xs is h = count_less (λ y. before y u) (λ y. before y x) u xs is (not_self u) h (λ y in_xs k. through y u x k h)

  rank_more : (x u : A) (xs : List A) → rank (x ∷ xs) u ≡ cond (before x u) 1 0 + rank xs u
  rank_more x u xs = count-cons (λ y. before y u) x xs

  rank_first : (x : A) (xs : List A) → rank (x ∷ xs) x ≡ rank xs x
  rank_first x xs = rank_more x x xs ∙ rw (not_self x) (nothing_more (rank xs x))

  -- past the rank of x nothing changes below it, and one more counts above it
  few : (x u : A) (xs : List A) (k : ℕ) → In u xs → (before x u ≡ false → before u x ≡ true) → k ≤ rank xs x → nat_lt (rank (x ∷ xs) u) k ≡ nat_lt (rank xs u) k
  few x u xs k is ordered le = rw (rank_more x u xs) (by_test (before x u) refl)
    where
      by_test : (b : Bool) → before x u ≡ b → nat_lt (cond b 1 0 + rank xs u) k ≡ nat_lt (rank xs u) k
      by_test true h = let more = rank_after x u xs h in both_no (rank xs u) k (omega (arith, more, le))
        where
          both_no : (n m : ℕ) → m ≤ n → nat_lt (1 + n) m ≡ nat_lt n m
          both_no n m le = grind (arith, nat_tests)
      by_test false h = ap (λ (n : ℕ). nat_lt n k) (nothing_more (rank xs u))

  many : (x u : A) (xs : List A) (k : ℕ) → In u xs → (before x u ≡ false → before u x ≡ true) → rank xs x ≤ k → nat_lt (rank (x ∷ xs) u) (suc k) ≡ nat_lt (rank xs u) k
  many x u xs k is ordered le = rw (rank_more x u xs) (by_test (before x u) refl)
    where
      by_test : (b : Bool) → before x u ≡ b → nat_lt (cond b 1 0 + rank xs u) (suc k) ≡ nat_lt (rank xs u) k
      by_test true h = shifted (rank xs u) k
        where
          shifted : (n m : ℕ) → nat_lt (1 + n) (suc m) ≡ nat_lt n m
          shifted n m = grind (arith, nat_tests)
      by_test false h = let lower = rank_before x u xs is (ordered h) in ap (λ (n : ℕ). nat_lt n (suc k)) (nothing_more (rank xs u)) ∙ both_yes (rank xs u) k (omega (arith, lower, le))
        where
          both_yes : (n m : ℕ) → n < m → nat_lt n (suc m) ≡ nat_lt n m
          both_yes n m lt = grind (arith, nat_tests)

  -- as many have fewer than k before them as there are, up to k
  pub ranked : (k : ℕ) (xs : List A) → AreOrdered xs → count_by (λ x. nat_lt (rank xs x) k) xs ≡ min k (length xs)
  ranked k [] ordered = omega arith
  ranked zero (x ∷ xs) ordered = none (x ∷ xs) (x ∷ xs) ∙ omega arith
    where
      none : (all ys : List A) → count_by (λ y. nat_lt (rank all y) 0) ys ≡ 0
      none all [] = refl
      none all (y ∷ ys) = let e : nat_lt (rank all y) 0 ≡ false = below (rank all y) in count-cons (λ z. nat_lt (rank all z) 0) y ys ∙ rw (e, none all ys) refl
        where
          below : (n : ℕ) → nat_lt n 0 ≡ false
          below n = grind (arith, nat_tests)
  ranked (suc k) (x ∷ xs) ordered = by_test (ranked k xs ordered.1) (ranked (suc k) xs ordered.1) (nat_lt (rank xs x) (suc k)) refl
    where
      first : ◌≡◌ {A = ℕ} (cond (nat_lt (rank (x ∷ xs) x) (suc k)) 1 0) (cond (nat_lt (rank xs x) (suc k)) 1 0)
      first = rw (rank_first x xs) refl

      split : count_by (λ y. nat_lt (rank (x ∷ xs) y) (suc k)) (x ∷ xs) ≡ cond (nat_lt (rank xs x) (suc k)) 1 0 + count_by (λ y. nat_lt (rank (x ∷ xs) y) (suc k)) xs
      split = count-cons (λ y. nat_lt (rank (x ∷ xs) y) (suc k)) x xs ∙ rw first refl

      below : (n m : ℕ) → nat_lt n (suc m) ≡ true → n ≤ m
      below n m h = grind (arith, nat_tests)

      above : (n m : ℕ) → nat_lt n (suc m) ≡ false → suc m ≤ n
      above n m h = grind (arith, nat_tests)

      by_test : count_by (λ y. nat_lt (rank xs y) k) xs ≡ min k (length xs) → count_by (λ y. nat_lt (rank xs y) (suc k)) xs ≡ min (suc k) (length xs) → (b : Bool) → nat_lt (rank xs x) (suc k) ≡ b →
          count_by (λ y. nat_lt (rank (x ∷ xs) y) (suc k)) (x ∷ xs) ≡ min (suc k) (suc (length xs))
      by_test fewer as_many true h =
          let same : count_by (λ y. nat_lt (rank (x ∷ xs) y) (suc k)) xs ≡ count_by (λ y. nat_lt (rank xs y) k) xs = count_same _ _ xs (λ u is. many x u xs k is (ordered.0 u is) (below (rank xs x) k h)) in
          split ∙ rw (h, same, fewer) (omega arith)
      by_test fewer as_many false h =
          let le = above (rank xs x) k h in
          let most = count_by-le-length (λ y. before y x) xs in
          let same : count_by (λ y. nat_lt (rank (x ∷ xs) y) (suc k)) xs ≡ count_by (λ y. nat_lt (rank xs y) (suc k)) xs = count_same _ _ xs (λ u is. few x u xs (suc k) is (ordered.0 u is) le) in
          split ∙ rw (h, same, as_many) (omega (arith, le, most))
