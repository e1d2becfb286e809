-- The greatest margin, package by package.
use Rattle.std.proofs.Common.{IfSome, subst, ◌≡◌, ℕ, ◌+◌, ◌<◌, ◌≤◌, ℤ, pos, Bool, true, false, List, ◌∷◌, Option, Some, None, map, drop, length, refl, sym, ap, arith, drop-cons, add-one, filter, slice_get}
use Rattle.std.proofs.lemmas.Int.{ints}
use Rattle.std.proofs.lemmas.Option.{get_or_from_slice_get, slice_get_within}
use Rattle.std.specs.Int.{int_max}
use Rattle.std.proofs.lemmas.List.{drop_all}
use Rattle.tac_base.specs.Clients.{Preferences}
use Rattle.packages.specs.Bounds.{greater, greatest, plus, margins, Narrowing}

max_assoc : (a b c : ℤ) → int_max (int_max a b) c ≡ int_max a (int_max b c)
max_assoc a b c = grind (arith, ints)

pub greater_assoc : (a b c : Option ℤ) → greater (greater a b) c ≡ greater a (greater b c)
greater_assoc None b c = refl
greater_assoc (Some a) None c = refl
greater_assoc (Some a) (Some b) None = refl
greater_assoc (Some a) (Some b) (Some c) = ap Some (max_assoc a b c)

-- what is left of a list at an element
pub drop_at : {X : Type 0} (xs : List X) (n : ℕ) (x : X) → slice_get xs n ≡ Some x → drop n xs ≡ x ∷ drop (n + 1) xs
drop_at xs n x h =
    let lt : n < length xs = slice_get_within xs n x h in
    rw (add-one, drop-cons xs n x, get_or_from_slice_get xs n x x h)

-- the greatest number that f gives to an element from n on that passes
abbrev pub greatest_from : {X : Type 0} → (X → ℤ) → (X → Bool) → List X → ℕ → Option ℤ
greatest_from f p xs n = greatest (map f (filter p (drop n xs)))

pub greatest_takes : {X : Type 0} (f : X → ℤ) (p : X → Bool) (xs : List X) (n : ℕ) (x : X) (most : Option ℤ) → slice_get xs n ≡ Some x → p x ≡ true
    → greater (greater most (Some (f x))) (greatest_from f p xs (n + 1)) ≡ greater most (greatest_from f p xs n)
greatest_takes f p xs n x most h passes = rw (drop_at xs n x h, passes) (greater_assoc most (Some (f x)) (greatest_from f p xs (n + 1)))

pub greatest_skips : {X : Type 0} (f : X → ℤ) (p : X → Bool) (xs : List X) (n : ℕ) (x : X) → slice_get xs n ≡ Some x → p x ≡ false
    → greatest_from f p xs (n + 1) ≡ greatest_from f p xs n
greatest_skips f p xs n x h fails = rw (drop_at xs n x h, fails)

greater_none : (most : Option ℤ) → greater most None ≡ most
greater_none None = refl
greater_none (Some a) = refl

pub greatest_done : {X : Type 0} (f : X → ℤ) (p : X → Bool) (xs : List X) (n : ℕ) (most : Option ℤ) → length xs ≤ n → greater most (greatest_from f p xs n) ≡ most
greatest_done f p xs n most h = rw (drop_all n xs h) (greater_none most)

pub if_some_is : (P : ℤ → Type 0) (a b : Option ℤ) → a ≡ b → IfSome b P → IfSome a P
if_some_is P a b h p = subst (λ o. IfSome o P) (sym h) p

plus_zero : (bound : Option ℤ) → plus bound (Some (pos 0)) ≡ bound
plus_zero None = refl
plus_zero (Some a) = ap Some (omega (arith, ints))

pub plus_done : (bound : Option ℤ) (left : Narrowing) (prices : List ℕ) (clients : List Preferences) (n : ℕ) → length clients ≤ n → plus bound (margins left prices n (drop n clients)) ≡ bound
plus_done bound left prices clients n h = rw (drop_all n clients h) (plus_zero bound)
