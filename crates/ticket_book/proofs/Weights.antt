-- Lists of the same units, each equally often, agree on everything that does not depend on order.
use Rattle.std.proofs.Common.{◌≡◌, ℕ, ◌+◌, ◌≤◌, Bool, true, false, cond, List, [], ◌∷◌, ◌++◌, map, refl, sym, ap, ◌∙◌, subst, arith, Option, Some, None, ◌||◌, not, nat_lt, max, min, sum_by, count_by, filter, fold}
use Rattle.std.specs.List.{AllByRecursion, list_any}
use Rattle.std.proofs.lemmas.List.Sums.{sum_by-cons, sum_by-append}
use Rattle.std.proofs.lemmas.Bool.Decides.{nat_tests}
use Rattle.ticket_book.specs.{Point, size_of, Placed, BidUnit, point_units, same_unit, among, common_units, left_points, left_of, lowest, highest_buy, lowest_sell, HaveSame}
use Rattle.auction_rules.proofs.Ranks.{count-cons, count_same}
use Rattle.auction_rules.proofs.Quotes.{fold_keeps, max_keeps, max_reaches, prices_of}
use Rattle.auction_rules.proofs.Standing.{Each, each-weaker, all_among_self}
use Rattle.auction_rules.proofs.Matching.{each_among}

-- ---- parts of such lists

pub sum_by-filter : {A : Type 0} (test : A → Bool) (weight : A → ℕ) (xs : List A) → sum_by weight (filter test xs) ≡ sum_by (λ x. cond (test x) (weight x) 0) xs
sum_by-filter test weight [] = refl
sum_by-filter test weight (x ∷ xs) = by_test (test x) (sum_by-filter test weight xs) ∙ sym (sum_by-cons (λ y. cond (test y) (weight y) 0) x xs)
  where
    by_test : (b : Bool) → sum_by weight (filter test xs) ≡ sum_by (λ y. cond (test y) (weight y) 0) xs →
        sum_by weight (cond b (x ∷ filter test xs) (filter test xs)) ≡ cond b (weight x) 0 + sum_by (λ y. cond (test y) (weight y) 0) xs
    by_test true ih = sum_by-cons weight x (filter test xs) ∙ rw ih refl
    by_test false ih = omega (arith, ih)

pub same_filter : (test : BidUnit → Bool) (xs ys : List BidUnit) → HaveSame xs ys → HaveSame (filter test xs) (filter test ys)
same_filter test xs ys same = λ weight. sum_by-filter test weight xs ∙ same (λ u. cond (test u) (weight u) 0) ∙ sym (sum_by-filter test weight ys)

pub same_append : (xs xs' ys ys' : List BidUnit) → HaveSame xs xs' → HaveSame ys ys' → HaveSame (xs ++ ys) (xs' ++ ys')
same_append xs xs' ys ys' h k = λ weight. omega (arith, sum_by-append weight xs ys, sum_by-append weight xs' ys', h weight, k weight)

pub same_back : (xs ys : List BidUnit) → HaveSame xs ys → HaveSame ys xs
same_back xs ys same = λ weight. sym (same weight)

pub same_through : (xs ys zs : List BidUnit) → HaveSame xs ys → HaveSame ys zs → HaveSame xs zs
same_through xs ys zs h k = λ weight. h weight ∙ k weight

pub nothing_same : (xs : List BidUnit) → HaveSame xs [] → xs ≡ []
nothing_same [] same = refl
nothing_same (x ∷ xs) same = absurd (omega (arith, same (λ _. 1), sum_by-cons (λ _. 1) x xs))

-- ---- what is among them

any_counted : (test : BidUnit → Bool) (xs : List BidUnit) → list_any test xs ≡ nat_lt 0 (count_by test xs)
any_counted test [] = refl
any_counted test (x ∷ xs) = by_test (test x) (any_counted test xs) ∙ ap (nat_lt 0) (sym (count-cons test x xs))
  where
    some : (n : ℕ) → true ≡ nat_lt 0 (1 + n)
    some n = grind (arith, nat_tests)

    none_more : (n : ℕ) → n ≡ 0 + n
    none_more n = omega arith

    by_test : (b : Bool) → list_any test xs ≡ nat_lt 0 (count_by test xs) → (b || list_any test xs) ≡ nat_lt 0 (cond b 1 0 + count_by test xs)
    by_test true ih = some (count_by test xs)
    by_test false ih = ih ∙ ap (nat_lt 0) (none_more (count_by test xs))

pub any_alike : (test : BidUnit → Bool) (xs ys : List BidUnit) → HaveSame xs ys → list_any test xs ≡ list_any test ys
any_alike test xs ys same = any_counted test xs ∙ ap (nat_lt 0) (same (λ u. cond (test u) 1 0)) ∙ sym (any_counted test ys)

pub among_alike : (u : BidUnit) (xs ys : List BidUnit) → HaveSame xs ys → among u xs ≡ among u ys
among_alike u xs ys same = any_alike (same_unit u) xs ys same

-- what each unit of one list has, each of the other has
pub each_alike : (P : BidUnit → Type 0) (xs ys : List BidUnit) → HaveSame xs ys → Each P ys → Each P xs
each_alike P xs ys same h = each-weaker (λ u. among u xs ≡ true) P xs (λ u is. each_among P u ys h (sym (among_alike u xs ys same) ∙ is)) (all_among_self xs)

-- ---- what is left of a bid

left_alike : (agent position from : ℕ) (points : List Point) (xs ys : List BidUnit) → HaveSame xs ys → left_points xs agent position from points ≡ left_points ys agent position from points
left_alike agent position from [] xs ys same = refl
left_alike agent position from (point ∷ points) xs ys same = rw (common, left_alike agent position (from + size_of point) points xs ys same) refl
  where
    common : common_units (point_units agent position from point) xs ≡ common_units (point_units agent position from point) ys
    common = count_same (λ u. among u xs) (λ u. among u ys) (point_units agent position from point) (λ u _. among_alike u xs ys same)

pub left_of_alike : (bid : Option Placed) (xs ys : List BidUnit) → HaveSame xs ys → left_of xs bid ≡ left_of ys bid
left_of_alike None xs ys same = refl
left_of_alike (Some bid) xs ys same = left_alike bid.agent bid.position 0 bid.points xs ys same

-- ---- quotes

-- what holds of the prices of those that pass a test
from_prices : (P : ℕ → Type 0) (test : BidUnit → Bool) (us : List BidUnit) → AllByRecursion P (map (λ u. u.price) (filter test us)) → Each (λ u. test u ≡ true → P u.price) us
from_prices P test [] h = tt
from_prices P test (u ∷ us) h = by_test (test u) refl h (from_prices P test us)
  where
    Rest : List ℕ → Type 0
    Rest ns = AllByRecursion P ns

    by_test : (b : Bool) → test u ≡ b → Rest (map (λ x. x.price) (cond b (u ∷ filter test us) (filter test us))) →
        (Rest (map (λ x. x.price) (filter test us)) → Each (λ x. test x ≡ true → P x.price) us) → Each (λ x. test x ≡ true → P x.price) (u ∷ us)
    by_test true is k rest = ((λ _. k.0), rest k.1)
    by_test false is k rest = ((λ yes. absurd cc), rest k)

highest_below : (xs ys : List BidUnit) → HaveSame xs ys → highest_buy xs ≤ highest_buy ys
highest_below xs ys same =
    fold_keeps (λ n. n ≤ highest_buy ys) max (max_keeps (λ n. n ≤ highest_buy ys)) 0 (omega arith) (map (λ u. u.price) (filter (λ u. u.buys) xs))
    (prices_of (λ n. n ≤ highest_buy ys) (λ u. u.buys) xs
    (each_alike (λ u. u.buys ≡ true → u.price ≤ highest_buy ys) xs ys same
    (from_prices (λ n. n ≤ highest_buy ys) (λ u. u.buys) ys (max_reaches 0 (map (λ u. u.price) (filter (λ u. u.buys) ys))).1)))

pub highest_alike : (xs ys : List BidUnit) → HaveSame xs ys → highest_buy xs ≡ highest_buy ys
highest_alike xs ys same = let up = highest_below xs ys same in let down = highest_below ys xs (same_back xs ys same) in omega (arith, up, down)

min_keeps : (P : ℕ → Type 0) (m n : ℕ) → P m → P n → P (min m n)
min_keeps P m n h k = by_test (nat_lt m n) refl
  where
    by_test : (b : Bool) → nat_lt m n ≡ b → P (min m n)
    by_test true lt = let is : m ≡ min m n = grind (arith, nat_tests) in subst P is h
    by_test false lt = let is : n ≡ min m n = grind (arith, nat_tests) in subst P is k

least_of : (P : ℕ → Type 0) (ns : List ℕ) → (ns ≡ [] → P 0) → AllByRecursion P ns → P (lowest ns)
least_of P [] h all = h refl
least_of P (n ∷ ns) h all = fold_keeps P min (min_keeps P) n all.0 ns all.1

-- the least number is at most the first and each other
min_reaches : (m : ℕ) (ns : List ℕ) → (fold min m ns ≤ m) × AllByRecursion (λ n. fold min m ns ≤ n) ns
min_reaches m [] = (omega arith, tt)
min_reaches m (n ∷ ns) =
    let rest = min_reaches (min m n) ns in
    let first : fold min (min m n) ns ≤ m = omega (arith, rest.0) in
    let second : fold min (min m n) ns ≤ n = omega (arith, rest.0) in
    (first, (second, rest.1))

least_reaches : (ns : List ℕ) → AllByRecursion (λ n. lowest ns ≤ n) ns
least_reaches [] = tt
least_reaches (n ∷ ns) = min_reaches n ns

sells_of : List BidUnit → List BidUnit
sells_of units = filter (λ u. not u.buys) units

lowest_below : (xs ys : List BidUnit) → HaveSame xs ys → lowest_sell xs ≤ lowest_sell ys
unfolding sells_of
lowest_below xs ys same =
    least_of (λ n. lowest_sell xs ≤ n) (map (λ u. u.price) (sells_of ys)) (λ none. nothing (none_mapped (sells_of ys) none))
    (prices_of (λ n. lowest_sell xs ≤ n) (λ u. not u.buys) ys
    (each_alike (λ u. not u.buys ≡ true → lowest_sell xs ≤ u.price) ys xs (same_back xs ys same)
    (from_prices (λ n. lowest_sell xs ≤ n) (λ u. not u.buys) xs (least_reaches (map (λ u. u.price) (sells_of xs))))))
  where
    none_mapped : (us : List BidUnit) → map (λ u. u.price) us ≡ [] → us ≡ []
    none_mapped [] is = refl
    none_mapped (u ∷ us) is = absurd cc

    nothing : sells_of ys ≡ [] → lowest_sell xs ≤ 0
    nothing none =
        let none_too : sells_of xs ≡ [] = nothing_same (sells_of xs) (subst (HaveSame (sells_of xs)) none (same_filter (λ u. not u.buys) xs ys same)) in
        let zero_is : lowest (map (λ u. u.price) (sells_of xs)) ≡ 0 = ap (λ (us : List BidUnit). lowest (map (λ u. u.price) us)) none_too in omega (arith, zero_is)

pub lowest_alike : (xs ys : List BidUnit) → HaveSame xs ys → lowest_sell xs ≡ lowest_sell ys
lowest_alike xs ys same = let up = lowest_below xs ys same in let down = lowest_below ys xs (same_back xs ys same) in omega (arith, up, down)
