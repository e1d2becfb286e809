-- How many elements of a list and of its parts pass a test.
use Rattle.std.proofs.Common.{◌≡◌, ℕ, zero, suc, ◌+◌, ◌≤◌, Bool, true, false, cond, List, [], ◌∷◌, refl, sym, ◌∙◌, arith, inl, inr, not, ◌&&◌, nat_le, if◌then◌else◌, filter, count_by}
use Rattle.std.proofs.lemmas.List.Sums.{sum_by-cons, sum_by-append, sum_by_push, sum_by-le-sum_by}
use Rattle.std.proofs.lemmas.Bool.Decides.{nat_tests}
use Rattle.auction_rules.specs.{Point, size_of, buys_of, block, point_units, units_from, offered}
use Rattle.auction_rules.specs.declared.units.BidUnit.{BidUnit}
use Rattle.auction_rules.proofs.Ranks.{In, count-cons}

-- nothing passes
pub none_pass : {A : Type 0} (p : A → Bool) (xs : List A) → ((x : A) → In x xs → p x ≡ false) → count_by p xs ≡ 0
none_pass p [] f = refl
none_pass p (x ∷ xs) f = count-cons p x xs ∙ rw (f x (inl refl), none_pass p xs (λ y h. f y (inr h))) (omega arith)

-- each element that passes is on one side of another test
pub count-parts : {A : Type 0} (test p : A → Bool) (xs : List A) → count_by p xs ≡ count_by p (filter test xs) + count_by p (filter (λ x. not (test x)) xs)
count-parts test p [] = omega arith
count-parts test p (x ∷ xs) = count-cons p x xs ∙ by_test (test x) (count-parts test p xs)
  where
    by_test : (b : Bool) → count_by p xs ≡ count_by p (filter test xs) + count_by p (filter (λ y. not (test y)) xs) →
        cond (p x) 1 0 + count_by p xs ≡ count_by p (cond b (x ∷ filter test xs) (filter test xs)) + count_by p (cond (not b) (x ∷ filter (λ y. not (test y)) xs) (filter (λ y. not (test y)) xs))
    by_test true ih = let first = count-cons p x (filter test xs) in omega (arith, first, ih)
    by_test false ih = let first = count-cons p x (filter (λ y. not (test y)) xs) in omega (arith, first, ih)

pub count-filter : {A : Type 0} (test p : A → Bool) (xs : List A) → count_by p (filter test xs) ≡ count_by (λ x. test x && p x) xs
count-filter test p [] = refl
count-filter test p (x ∷ xs) = by_test (test x) (count-filter test p xs) ∙ sym (count-cons (λ y. test y && p y) x xs)
  where
    by_test : (b : Bool) → count_by p (filter test xs) ≡ count_by (λ y. test y && p y) xs →
        count_by p (cond b (x ∷ filter test xs) (filter test xs)) ≡ cond (b && p x) 1 0 + count_by (λ y. test y && p y) xs
    by_test true ih = let first = count-cons p x (filter test xs) in omega (arith, first, ih)
    by_test false ih = omega (arith, ih)

-- ---- the units of points at a price

-- how many of the units have the price or more
abbrev pub units_at : List BidUnit → ℕ → ℕ
units_at units price = count_by (λ u. nat_le price u.price) units

block_at : (at : ℕ) (first : BidUnit) (n : ℕ) → units_at (block first n) at ≡ cond (nat_le at first.price) n 0
block_at at first zero = by_test (nat_le at first.price)
  where
    by_test : (b : Bool) → ◌≡◌ {A = ℕ} 0 (cond b 0 0)
    by_test true = refl
    by_test false = refl
block_at at first (suc n) =
    sum_by_push (λ u. cond (nat_le at u.price) 1 0) (block first n) (record first { index = first.index + n }) ∙ by_test (nat_le at first.price) (block_at at first n)
  where
    by_test : (b : Bool) → units_at (block first n) at ≡ cond b n 0 → units_at (block first n) at + cond b 1 0 ≡ cond b (suc n) 0
    by_test true ih = omega (arith, ih)
    by_test false ih = omega (arith, ih)

-- the units that a point offers at a price or more
abbrev pub offered_by : ℕ → Point → ℕ
offered_by at point = if nat_le at point.price then size_of point else 0

-- a bid offers as many units at a price as its units have it or more
pub units_offered : (agent position from at : ℕ) (points : List Point) → units_at (units_from agent position from points) at ≡ offered points at
units_offered agent position from at [] = refl
units_offered agent position from at (point ∷ points) =
    sum_by-append (λ u. cond (nat_le at u.price) 1 0) (point_units agent position from point) (units_from agent position (from + size_of point) points)
    ∙ rw (block_at at (record { agent = agent; buys = buys_of point.units; price = point.price; position = position; index = from }) (size_of point), units_offered agent position (from + size_of point) at points)
    (sym (sum_by-cons (offered_by at) point points))

-- no fewer at a lower price
pub offered_below : (at : ℕ) (points : List Point) → offered points (at + 1) ≤ offered points at
offered_below at points = sum_by-le-sum_by (offered_by (at + 1)) (offered_by at) points (λ point. one point.price (size_of point))
  where
    one : (price size : ℕ) → cond (nat_le (at + 1) price) size 0 ≤ cond (nat_le at price) size 0
    one price size = grind (arith, nat_tests)
