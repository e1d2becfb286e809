-- Inserting a unit in its place keeps the order, and so does a filter.
use Rattle.std.proofs.Common.{◌≡◌, ℕ, zero, suc, ◌≤◌, Bool, true, false, List, [], ◌∷◌, map, get_or, ◌-◌, sym, ap, subst, ◌∙◌, arith, All, insert, filter}
use Rattle.std.specs.List.{AllByRecursion, position_or_len}
use Rattle.std.proofs.lemmas.List.Elements.{All-from_recursion, recursion_from_All}
use Rattle.std.proofs.lemmas.Bool.Decides.{nat_tests}
use Rattle.tac_base.specs.declared.units.Unit.{Unit as ShownUnit}
use Rattle.auction_rules.proofs.Lists.{all-filter}
use Rattle.auction_rules.proofs.Sorting.{all-put, sorted-put}
use Rattle.hotel_book.specs.Ranked.{ranks_first, AreSortedUnits, last_price}

-- ---- precedence

pub not_back : (u v : ShownUnit) → ranks_first u v ≡ true → ranks_first v u ≡ false
not_back u v h = grind (arith, nat_tests)

pub not_self : (u : ShownUnit) → ranks_first u u ≡ false
not_self u = grind (arith, nat_tests)

-- if u precedes v, what precedes u precedes v
before_both : (u v w : ShownUnit) → ranks_first u v ≡ true → ranks_first w v ≡ false → ranks_first w u ≡ false
before_both u v w h k = grind (arith, nat_tests)

-- ---- lists

pub sorted_with : (u : ShownUnit) (units units' : List ShownUnit) (place : ℕ) → AreSortedUnits units → place ≡ position_or_len (ranks_first u) units → units' ≡ insert units place u → AreSortedUnits units'
sorted_with u units units' place h at is = subst AreSortedUnits (sym (is ∙ ap (λ n. insert units n u) at)) (sorted-put ranks_first not_back before_both u units h)

-- ---- prices

pub priced-put : (most place : ℕ) (u : ShownUnit) (units : List ShownUnit) → u.price ≤ most → All (λ v. v.price ≤ most) units → All (λ v. v.price ≤ most) (insert units place u)
priced-put most place u units le h = All-from_recursion (λ v. v.price ≤ most) (insert units place u) (all-put (λ v. v.price ≤ most) place u units le (recursion_from_All (λ v. v.price ≤ most) units h))

pub priced-filter : (most : ℕ) (test : ShownUnit → Bool) (units : List ShownUnit) → All (λ v. v.price ≤ most) units → All (λ v. v.price ≤ most) (filter test units)
priced-filter most test units h = All-from_recursion (λ v. v.price ≤ most) (filter test units) (all-filter (λ v. v.price ≤ most) test units (recursion_from_All (λ v. v.price ≤ most) units h))

-- the last price is in range if the units' prices are
pub last_within : (most rooms : ℕ) (units : List ShownUnit) → All (λ v. v.price ≤ most) units → last_price rooms units ≤ most
last_within most rooms units h = at_place (rooms - 1) units (recursion_from_All (λ v. v.price ≤ most) units h)
  where
    at_place : (i : ℕ) (others : List ShownUnit) → AllByRecursion (λ v. v.price ≤ most) others → get_or (map (λ v. v.price) others) i 0 ≤ most
    at_place i [] k = omega arith
    at_place zero (v ∷ others) k = k.0
    at_place (suc i) (v ∷ others) k = at_place i others k.1
