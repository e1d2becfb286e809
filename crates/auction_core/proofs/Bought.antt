-- Units bought and units bid: how sums and counts of them split.
use Rattle.std.proofs.Common.{◌≡◌, ℕ, zero, suc, ◌+◌, ◌≤◌, Bool, true, false, cond, List, [], ◌∷◌, refl, ap, ◌∙◌, subst, arith, Option, Some, None, ◌&&◌, ◌||◌, ◌==◌, nat_lt, nat_le, filter, sum_by, count_by, filter_map, flat_map}
use Rattle.std.specs.List.{AllByRecursion, cons_option}
use Rattle.std.proofs.lemmas.Bool.Decides.{nat_tests}
use Rattle.std.proofs.lemmas.List.Sums.{sum_by-cons, sum_by-append, sum_by_push}
use Rattle.auction_core.specs.{Trade, BidUnit, block, same_unit, among, common_units, bought_at}
use Rattle.auction_rules.proofs.Ranks.{count-cons}
use Rattle.auction_rules.proofs.Standing.{same_is}

-- ---- sums

pub sum-filter : {A : Type 0} (f : A → ℕ) (test : A → Bool) (x : A) (xs : List A) → sum_by f (filter test (x ∷ xs)) ≡ cond (test x) (f x) 0 + sum_by f (filter test xs)
sum-filter f test x xs = by_test (test x)
  where
    by_test : (b : Bool) → sum_by f (cond b (x ∷ filter test xs) (filter test xs)) ≡ cond b (f x) 0 + sum_by f (filter test xs)
    by_test true = sum_by-cons f x (filter test xs)
    by_test false = omega arith

pub sum-flat_map : {A B : Type 0} (f : B → ℕ) (g : A → List B) (xs : List A) → sum_by f (flat_map g xs) ≡ sum_by (λ x. sum_by f (g x)) xs
sum-flat_map f g [] = refl
sum-flat_map f g (x ∷ xs) =
    let parts = sum_by-append f (g x) (flat_map g xs) in
    let first = sum_by-cons (λ y. sum_by f (g y)) x xs in
    let rest = sum-flat_map f g xs in
    omega (arith, parts, first, rest)

-- what an option counts
abbrev pub counted : {B : Type 0} → (B → ℕ) → Option B → ℕ
counted f None = 0
counted f (Some y) = f y

pub sum-filter_map : {A B : Type 0} (f : B → ℕ) (g : A → Option B) (xs : List A) → sum_by f (filter_map g xs) ≡ sum_by (λ x. counted f (g x)) xs
sum-filter_map f g [] = refl
sum-filter_map {B = B} f g (x ∷ xs) =
    let first = sum_by-cons (λ y. counted f (g y)) x xs in
    let here = by_option (g x) in
    let rest = sum-filter_map f g xs in
    omega (arith, first, here, rest)
  where
    by_option : (y : Option B) → sum_by f (cons_option y (filter_map g xs)) ≡ counted f y + sum_by f (filter_map g xs)
    by_option None = omega arith
    by_option (Some y) = sum_by-cons f y (filter_map g xs)

pub sum_nothing : {A : Type 0} (f : A → ℕ) (xs : List A) → AllByRecursion (λ x. f x ≡ 0) xs → sum_by f xs ≡ 0
sum_nothing f [] h = refl
sum_nothing f (x ∷ xs) h = let first = sum_by-cons f x xs in let rest = sum_nothing f xs h.1 in let here = h.0 in omega (arith, first, rest, here)

-- if only what passes a test counts, and nothing passes it
none_counted : {A : Type 0} (test : A → Bool) (f : A → ℕ) (xs : List A) → ((x : A) → test x ≡ false → f x ≡ 0) → count_by test xs ≤ 0 → sum_by f xs ≡ 0
none_counted test f [] nothing none = refl
none_counted test f (x ∷ xs) nothing none = by_test (test x) (count-cons test x xs) (nothing x) (λ fewer. none_counted test f xs nothing fewer)
  where
    by_test : (b : Bool) → count_by test (x ∷ xs) ≡ cond b 1 0 + count_by test xs → (b ≡ false → f x ≡ 0) → (count_by test xs ≤ 0 → sum_by f xs ≡ 0) → sum_by f (x ∷ xs) ≡ 0
    by_test true count zero_here more = absurd (omega (arith, count, none))
    by_test false count zero_here more =
        let here = zero_here refl in
        let rest = more (omega (arith, count, none)) in
        let first = sum_by-cons f x xs in
        omega (arith, here, rest, first)

-- and if at most one element passes it, all count for no more than one may
pub counted_once : {A : Type 0} (test : A → Bool) (f : A → ℕ) (most : ℕ) (xs : List A) → ((x : A) → test x ≡ false → f x ≡ 0) → ((x : A) → f x ≤ most) → count_by test xs ≤ 1 → sum_by f xs ≤ most
counted_once test f most [] nothing few once = omega arith
counted_once test f most (x ∷ xs) nothing few once =
    by_test (test x) (count-cons test x xs) (nothing x) (λ fewer. none_counted test f xs nothing fewer) (λ fewer. counted_once test f most xs nothing few fewer)
  where
    by_test : (b : Bool) → count_by test (x ∷ xs) ≡ cond b 1 0 + count_by test xs → (b ≡ false → f x ≡ 0) → (count_by test xs ≤ 0 → sum_by f xs ≡ 0) → (count_by test xs ≤ 1 → sum_by f xs ≤ most) → sum_by f (x ∷ xs) ≤ most
    by_test true count zero_here none more =
        let rest = none (omega (arith, count, once)) in
        let first = sum_by-cons f x xs in
        let here = few x in
        omega (arith, here, rest, first)
    by_test false count zero_here none more =
        let here = zero_here refl in
        let rest = more (omega (arith, count, once)) in
        let first = sum_by-cons f x xs in
        omega (arith, here, rest, first)

-- ---- counts

-- what passes one of two tests that exclude each other passes a third
pub count_two : {A : Type 0} (p q r : A → Bool) (xs : List A) → ((x : A) → cond (p x) 1 0 + cond (q x) 1 0 ≤ cond (r x) 1 0) → count_by p xs + count_by q xs ≤ count_by r xs
count_two p q r [] both = omega arith
count_two p q r (x ∷ xs) both =
    let first = count-cons p x xs in
    let second = count-cons q x xs in
    let all = count-cons r x xs in
    let here = both x in
    let rest = count_two p q r xs both in
    omega (arith, first, second, all, here, rest)

-- a unit that passes a test and is among others is counted there
pub among_counted : (test : BidUnit → Bool) (u : BidUnit) (others : List BidUnit) → among u others ≡ true → test u ≡ true → 1 ≤ count_by test others
among_counted test u [] is passes = absurd cc
among_counted test u (v ∷ others) is passes = by_test (same_unit u v) refl is (λ later. among_counted test u others later passes)
  where
    by_test : (b : Bool) → same_unit u v ≡ b → (b || among u others) ≡ true → (among u others ≡ true → 1 ≤ count_by test others) → 1 ≤ count_by test (v ∷ others)
    by_test true same found more =
        let here : test v ≡ true = subst (λ (w : BidUnit). test w ≡ true) (same_is u v same) passes in
        let first : count_by test (v ∷ others) ≡ 1 + count_by test others = count-cons test v others ∙ ap (λ (b : Bool). cond b 1 0 + count_by test others) here in
        omega (arith, first)
    by_test false same found more = let rest = more found in let first = count-cons test v others in omega (arith, rest, first)

-- whether the unit is numbered from an index on, among so many
abbrev pub is_within : ℕ → ℕ → BidUnit → Bool
is_within from n u = nat_le from u.index && nat_lt u.index (from + n)

-- those of a block that are among others are counted there once each
pub block_found : (p : BidUnit → Bool) (first : BidUnit) (n : ℕ) (others : List BidUnit) → ((i : ℕ) → p (record first { index = i }) ≡ true) →
    common_units (block first n) others ≤ count_by (λ u. p u && is_within first.index n u) others
block_found p first zero others passes = omega arith
block_found p first (suc n) others passes =
    let before = block_found p first n others passes in
    let one_more = sum_by_push (λ u. cond (among u others) 1 0) (block first n) next in
    let found = by_test (among next others) refl in
    let both = count_two (λ u. p u && is_within first.index n u) is_next (λ u. p u && is_within first.index (suc n) u) others (λ u. apart (p u) first.index n u.index) in
    omega (arith, before, one_more, found, both)
  where
    next : BidUnit
    next = record first { index = first.index + n }

    is_next : BidUnit → Bool
    is_next u = p u && (u.index == first.index + n)

    itself : (m : ℕ) → (m == m) ≡ true
    itself m = grind (arith, nat_tests)

    by_test : (b : Bool) → among next others ≡ b → cond b 1 0 ≤ count_by is_next others
    by_test true is = among_counted is_next next others is (rw (passes (first.index + n), itself (first.index + n)) refl)
    by_test false is = omega arith

    apart : (b : Bool) (from m i : ℕ) → cond (b && (nat_le from i && nat_lt i (from + m))) 1 0 + cond (b && (i == from + m)) 1 0 ≤ cond (b && (nat_le from i && nat_lt i (from + suc m))) 1 0
    apart false from m i = omega arith
    apart true from m i = grind (arith, nat_tests)

-- ---- what a party buys

-- the units of a trade, where the party buys at the price or more
abbrev pub paid : ℕ → ℕ → Trade → ℕ
paid party price t = cond ((t.buyer == party) && nat_le price t.price) t.units 0

pub bought_is : (trades : List Trade) (party price : ℕ) → bought_at trades party price ≡ sum_by (paid party price) trades
bought_is [] party price = refl
bought_is (t ∷ trades) party price =
    let here = sum-filter (λ (x : Trade). x.units) (λ x. (x.buyer == party) && nat_le price x.price) t trades in
    let first = sum_by-cons (paid party price) t trades in
    let rest = bought_is trades party price in
    omega (arith, here, first, rest)
