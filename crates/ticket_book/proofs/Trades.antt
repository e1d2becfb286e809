-- How many units an agent trades by one bid.
use Rattle.std.proofs.Common.{◌≡◌, ℕ, suc, ◌≤◌, Bool, true, false, cond, List, [], ◌∷◌, length, map, refl, sym, subst, arith, ◌≢◌, ◌==◌, filter, sum_by, All}
use Rattle.std.specs.List.{AllByRecursion}
use Rattle.auction_rules.proofs.Lists.{all-weaker}
use Rattle.std.proofs.lemmas.List.Elements.{All-from_recursion, recursion_from_All}
use Rattle.std.proofs.lemmas.List.Sums.{sum_by-cons}
use Rattle.ticket_book.specs.Prelude.{Trade, BidUnit, bought, sold, traded, Spends, pair_trade, pairs, ticket_trades}
use Rattle.auction_rules.proofs.Matching.{IsFair, trades_fair}

-- each trade has one unit
one_unit : (good : ℕ) (matched : List (BidUnit × BidUnit)) → AllByRecursion (λ (t : Trade). t.units ≡ 1) (map (pair_trade good) matched)
one_unit good [] = tt
one_unit good (pair ∷ matched) = (one pair.0.buys, one_unit good matched)
  where
    one : (b : Bool) →
        (cond {A = Trade} b (record { buyer = pair.0.agent; seller = pair.1.agent; good = good; units = 1; price = pair.1.price })
        (record { buyer = pair.1.agent; seller = pair.0.agent; good = good; units = 1; price = pair.1.price })).units ≡ 1
    one true = refl
    one false = refl

few_units : (test : Trade → Bool) (trades : List Trade) → AllByRecursion (λ (t : Trade). t.units ≡ 1) trades → sum_by (λ (t : Trade). t.units) (filter test trades) ≤ length trades
few_units test [] h = omega arith
few_units test (t ∷ trades) h = by_test (test t) (few_units test trades h.1)
  where
    by_test : (b : Bool) → sum_by (λ (x : Trade). x.units) (filter test trades) ≤ length trades → sum_by (λ (x : Trade). x.units) (cond b (t ∷ filter test trades) (filter test trades)) ≤ suc (length trades)
    by_test true le = omega (arith, le, h.0, sum_by-cons (λ (x : Trade). x.units) t (filter test trades))
    by_test false le = omega (arith, le)

-- nobody buys or sells more units than there are trades
pub few_bought : (good agent : ℕ) (standing arriving : List BidUnit) (trades : List Trade) → trades ≡ ticket_trades good standing arriving → bought trades agent ≤ length trades
few_bought good agent standing arriving trades is =
    subst (λ (ts : List Trade). bought ts agent ≤ length ts) (sym is) (few_units (λ t. t.buyer == agent) _ (one_unit good (pairs standing arriving)))

pub few_sold : (good agent : ℕ) (standing arriving : List BidUnit) (trades : List Trade) → trades ≡ ticket_trades good standing arriving → sold trades agent ≤ length trades
few_sold good agent standing arriving trades is =
    subst (λ (ts : List Trade). sold ts agent ≤ length ts) (sym is) (few_units (λ t. t.seller == agent) _ (one_unit good (pairs standing arriving)))

-- as many units are traded as there are trades
all_units : (trades : List Trade) → AllByRecursion (λ (t : Trade). t.units ≡ 1) trades → traded trades ≡ length trades
all_units [] h = refl
all_units (t ∷ trades) h = omega (arith, all_units trades h.1, h.0, sum_by-cons (λ (x : Trade). x.units) t trades)

pub bid_spends : (good : ℕ) (standing arriving : List BidUnit) (trades : List Trade) → trades ≡ ticket_trades good standing arriving → length trades ≤ 16 → Spends 16 0 trades
bid_spends good standing arriving trades is few = record {
  some = All-from_recursion (λ (t : Trade). 1 ≤ t.units) trades (all-weaker (λ (t : Trade). t.units ≡ 1) (λ (t : Trade). 1 ≤ t.units) trades (λ t h. omega (arith, h)) ones);
  few = omega (arith, all_units trades ones, few);
}
  where
    ones : AllByRecursion (λ (t : Trade). t.units ≡ 1) trades
    ones = subst (AllByRecursion (λ (t : Trade). t.units ≡ 1)) (sym is) (one_unit good (pairs standing arriving))

-- nobody trades with itself, and no price is above 10000 if those of the standing units are not
pub trades_priced : (good : ℕ) (standing arriving : List BidUnit) (trades : List Trade) → All (λ u. u.price ≤ 10000) standing → trades ≡ ticket_trades good standing arriving →
    All (λ t. t.buyer ≢ t.seller) trades × All (λ t. t.price ≤ 10000) trades
trades_priced good standing arriving trades priced is =
    let fair : AllByRecursion (IsFair 10000) trades = subst (AllByRecursion (IsFair 10000)) (sym is) (trades_fair good 10000 standing arriving (recursion_from_All (λ u. u.price ≤ 10000) standing priced)) in (
      All-from_recursion (λ t. t.buyer ≢ t.seller) trades (all-weaker (IsFair 10000) (λ t. t.buyer ≢ t.seller) trades (λ t k. k.0) fair),
      All-from_recursion (λ t. t.price ≤ 10000) trades (all-weaker (IsFair 10000) (λ t. t.price ≤ 10000) trades (λ t k. k.1) fair),
    )
