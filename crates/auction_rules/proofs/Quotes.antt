-- The highest and the lowest price have every property that all prices have.
use Rattle.std.proofs.Common.{◌≡◌, ℕ, ◌≤◌, Bool, true, false, cond, List, [], ◌∷◌, map, refl, subst, arith, not, nat_le, max, min, filter, fold}
use Rattle.std.specs.List.{AllByRecursion}
use Rattle.std.proofs.lemmas.Bool.Decides.{nat_tests}
use Rattle.auction_rules.specs.declared.units.BidUnit.{BidUnit}
use Rattle.auction_rules.specs.Board.{lowest, highest_buy, lowest_sell}
use Rattle.auction_rules.proofs.Standing.{Each, each-weaker}

pub fold_keeps : (P : ℕ → Type 0) (f : ℕ → ℕ → ℕ) → ((m n : ℕ) → P m → P n → P (f m n)) → (m : ℕ) → P m → (ns : List ℕ) → AllByRecursion P ns → P (fold f m ns)
fold_keeps P f keeps m h [] all = h
fold_keeps P f keeps m h (n ∷ ns) all = fold_keeps P f keeps (f m n) (keeps m n h all.0) ns all.1

pub max_keeps : (P : ℕ → Type 0) (m n : ℕ) → P m → P n → P (max m n)
max_keeps P m n h k = by_test (nat_le m n) refl
  where
    by_test : (b : Bool) → nat_le m n ≡ b → P (max m n)
    by_test true le = let is : n ≡ max m n = grind (arith, nat_tests) in subst P is k
    by_test false le = let is : m ≡ max m n = grind (arith, nat_tests) in subst P is h

-- the greatest number is at least the first and each other
pub max_reaches : (m : ℕ) (ns : List ℕ) → (m ≤ fold max m ns) × AllByRecursion (λ n. n ≤ fold max m ns) ns
max_reaches m [] = (omega arith, tt)
max_reaches m (n ∷ ns) =
    let rest = max_reaches (max m n) ns in
    let first : m ≤ fold max (max m n) ns = omega (arith, rest.0) in
    let second : n ≤ fold max (max m n) ns = omega (arith, rest.0) in
    (first, (second, rest.1))

min_keeps : (P : ℕ → Type 0) (m n : ℕ) → P m → P n → P (min m n)
min_keeps P m n h k = by_test (nat_le m n) refl
  where
    by_test : (b : Bool) → nat_le m n ≡ b → P (min m n)
    by_test true le = let is : m ≡ min m n = grind (arith, nat_tests) in subst P is h
    by_test false le = let is : n ≡ min m n = grind (arith, nat_tests) in subst P is k

pub lowest_keeps : (P : ℕ → Type 0) → P 0 → (ns : List ℕ) → AllByRecursion P ns → P (lowest ns)
lowest_keeps P h [] all = h
lowest_keeps P h (n ∷ ns) all = fold_keeps P min (min_keeps P) n all.0 ns all.1

pub prices_of : (P : ℕ → Type 0) (test : BidUnit → Bool) (us : List BidUnit) → Each (λ u. test u ≡ true → P u.price) us → AllByRecursion P (map (λ u. u.price) (filter test us))
prices_of P test [] h = tt
prices_of P test (u ∷ us) h = by_test (test u) refl (prices_of P test us h.1)
  where
    by_test : (b : Bool) → test u ≡ b → AllByRecursion P (map (λ x. x.price) (filter test us)) → AllByRecursion P (map (λ x. x.price) (cond b (u ∷ filter test us) (filter test us)))
    by_test true is rest = (h.0 is, rest)
    by_test false is rest = rest

-- the quotes are no higher than all prices are
pub quotes_within : (most : ℕ) (units : List BidUnit) → Each (λ u. u.price ≤ most) units → (highest_buy units ≤ most) × (lowest_sell units ≤ most)
quotes_within most units h = (
  fold_keeps (λ n. n ≤ most) max (max_keeps (λ n. n ≤ most)) 0 (omega arith) (map (λ u. u.price) (filter (λ u. u.buys) units)) (each (λ u. u.buys)),
  lowest_keeps (λ n. n ≤ most) (omega arith) (map (λ u. u.price) (filter (λ u. not u.buys) units)) (each (λ u. not u.buys)),
)
  where
    each : (test : BidUnit → Bool) → AllByRecursion (λ n. n ≤ most) (map (λ u. u.price) (filter test units))
    each test = prices_of (λ n. n ≤ most) test units (each-weaker (λ u. u.price ≤ most) (λ u. test u ≡ true → u.price ≤ most) units (λ u le is. le) h)
