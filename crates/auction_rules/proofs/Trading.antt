-- How many units trades move.
use Rattle.std.proofs.Common.{◌≡◌, ℕ, ◌≤◌, Bool, true, false, cond, List, [], ◌∷◌, length, refl, sym, subst, arith, ◌==◌, filter, sum_by, All}
use Rattle.std.specs.List.{AllByRecursion}
use Rattle.std.proofs.lemmas.List.Elements.{recursion_from_All, All-from_recursion}
use Rattle.std.proofs.lemmas.List.Sums.{sum_by-cons}
use Rattle.tac_base.specs.declared.calls.Trade.{Trade}
use Rattle.auction_rules.specs.{bought, sold, traded, Spends}

-- some of the elements count for no more than all
pub sum_by-filter-le : {X : Type 0} (f : X → ℕ) (test : X → Bool) (xs : List X) → sum_by f (filter test xs) ≤ sum_by f xs
sum_by-filter-le f test [] = omega arith
sum_by-filter-le {X} f test (x ∷ xs) = by_test (test x) (sum_by-filter-le f test xs)
  where
    by_test : (b : Bool) → sum_by f (filter test xs) ≤ sum_by f xs → sum_by f (cond b (x ∷ filter test xs) (filter test xs)) ≤ sum_by f (x ∷ xs)
    by_test true le = omega (arith, le, sum_by-cons f x (filter test xs), sum_by-cons f x xs)
    by_test false le = omega (arith, le, sum_by-cons f x xs)

-- no party buys or sells more units than are traded
pub bought_le : (trades : List Trade) (party : ℕ) → bought trades party ≤ traded trades
bought_le trades party = sum_by-filter-le (λ (t : Trade). t.units) (λ t. t.buyer == party) trades

pub sold_le : (trades : List Trade) (party : ℕ) → sold trades party ≤ traded trades
sold_le trades party = sum_by-filter-le (λ (t : Trade). t.units) (λ t. t.seller == party) trades

-- if each trade has a unit, there are no more trades than units
pub length_le : (trades : List Trade) → All (λ (t : Trade). 1 ≤ t.units) trades → length trades ≤ traded trades
length_le trades some = each trades (recursion_from_All (λ (t : Trade). 1 ≤ t.units) trades some)
  where
    each : (ts : List Trade) → AllByRecursion (λ (t : Trade). 1 ≤ t.units) ts → length ts ≤ traded ts
    each [] h = omega arith
    each (t ∷ ts) h = omega (arith, each ts h.1, h.0, sum_by-cons (λ (x : Trade). x.units) t ts)

-- if nothing is sold, no more may be left than was
pub nothing_spent : (before after : ℕ) (trades : List Trade) → trades ≡ [] → after ≤ before → Spends before after trades
nothing_spent before after trades none le = subst (λ (ts : List Trade). Spends before after ts) (sym none) (record { some = All-from_recursion (λ (t : Trade). 1 ≤ t.units) [] tt; few = let zero : traded [] ≡ 0 = refl in omega (arith, zero, le) })
