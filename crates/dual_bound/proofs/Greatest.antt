-- The greatest of numbers, and the parts of a sum.
use Rattle.std.proofs.Common.{◌≡◌, ℕ, suc, ℤ, ◌+ℤ◌, ◌≤ℤ◌, Bool, true, false, cond, List, [], ◌∷◌, Option, Some, None, map, refl, subst, arith, filter, slice_get}
use Rattle.std.specs.Int.{int_max}
use Rattle.std.proofs.lemmas.Int.{ints}
use Rattle.dual_bound.specs.Prelude.{Package, greater, greatest, plus}

max_at_most : (a n x : ℤ) → a ≤ℤ x → n ≤ℤ x → int_max a n ≤ℤ x
max_at_most a n x ha hn = grind (arith, ints)

greater_at_most : (r : Option ℤ) (a x m : ℤ) → a ≤ℤ x → ((n : ℤ) → r ≡ Some n → n ≤ℤ x) → greater (Some a) r ≡ Some m → m ≤ℤ x
greater_at_most None a x m le rest e =
    let m_is : a ≡ m = cc in
    omega (arith, ints, le, m_is)
greater_at_most (Some n) a x m le rest e =
    let m_is : int_max a n ≡ m = cc in
    subst (λ j. j ≤ℤ x) m_is (max_at_most a n x le (rest n refl))

by_test : (f : Package → ℤ) (test : Package → Bool) (y : Package) (ys : List Package) (x m : ℤ) (b : Bool) → test y ≡ b → (test y ≡ true → f y ≤ℤ x) → ((n : ℤ) → greatest (map f (filter test ys)) ≡ Some n → n ≤ℤ x)
    → greatest (map f (cond b (y ∷ filter test ys) (filter test ys))) ≡ Some m → m ≤ℤ x
by_test f test y ys x m true h here rest is = greater_at_most (greatest (map f (filter test ys))) (f y) x m (here h) rest is
by_test f test y ys x m false h here rest is = rest m is

-- a greatest number is at most what bounds each
pub greatest_at_most : (f : Package → ℤ) (test : Package → Bool) (xs : List Package) (x m : ℤ) → ((k : ℕ) (q : Package) → slice_get xs k ≡ Some q → test q ≡ true → f q ≤ℤ x) → greatest (map f (filter test xs)) ≡ Some m → m ≤ℤ x
greatest_at_most f test [] x m each is = cc
greatest_at_most f test (y ∷ ys) x m each is = by_test f test y ys x m (test y) refl (λ h. each 0 y refl h) (λ n e. greatest_at_most f test ys x n (λ k q. each (suc k) q) e) is

-- both parts of a sum that is there
pub record Parts (a b : Option ℤ) (m : ℤ) : Type 0 where
  pub left_part : ℤ
  pub right_part : ℤ
  pub left_is : a ≡ Some left_part
  pub right_is : b ≡ Some right_part
  pub sum_is : left_part +ℤ right_part ≡ m

pub parts_of : (a b : Option ℤ) (m : ℤ) → plus a b ≡ Some m → Parts a b m
parts_of None b m h = cc
parts_of (Some x) None m h = cc
parts_of (Some x) (Some y) m h = record { left_part = x; right_part = y; left_is = refl; right_is = refl; sum_is = cc }
