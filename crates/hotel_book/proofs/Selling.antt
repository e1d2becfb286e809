-- How many units a closing sells.
use Rattle.std.proofs.Common.{◌≡◌, ℕ, zero, suc, ◌+◌, ◌≤◌, Bool, true, false, cond, List, [], ◌∷◌, length, take, refl, sym, ap, ne_eqb, subst, arith, ◌==◌, count_by, All, filter_map, length-take}
use Rattle.std.specs.List.{AllByRecursion}
use Rattle.std.proofs.lemmas.List.Elements.{All-from_recursion}
use Rattle.std.proofs.lemmas.List.Sums.{sum_by-cons}
use Rattle.std.proofs.lemmas.Bool.Decides.{nat_tests}
use Rattle.hotel_book.specs.{Trade, Unit as ShownUnit, BID_PRICE, agents, traded, Spends, IsShort, won, winner_trade, winner_trades}
use Rattle.auction_rules.proofs.Standing.{number_is}

-- ---- the eight agents' units are no more than all

is_at : ℕ → ℕ → ℕ
is_at owner agent = cond (owner == agent) 1 0

one_owner : (owner : ℕ) → is_at owner 0 + is_at owner 1 + is_at owner 2 + is_at owner 3 + is_at owner 4 + is_at owner 5 + is_at owner 6 + is_at owner 7 ≤ 1
unfolding is_at
one_owner zero = omega arith
one_owner (suc zero) = omega arith
one_owner (suc (suc zero)) = omega arith
one_owner (suc (suc (suc zero))) = omega arith
one_owner (suc (suc (suc (suc zero)))) = omega arith
one_owner (suc (suc (suc (suc (suc zero))))) = omega arith
one_owner (suc (suc (suc (suc (suc (suc zero)))))) = omega arith
one_owner (suc (suc (suc (suc (suc (suc (suc zero))))))) = omega arith
one_owner (suc (suc (suc (suc (suc (suc (suc (suc m)))))))) = omega (arith, nobody 0, nobody 1, nobody 2, nobody 3, nobody 4, nobody 5, nobody 6, nobody 7)
  where
    nobody : (agent : ℕ) → agent ≤ 7 → is_at (suc (suc (suc (suc (suc (suc (suc (suc m)))))))) agent ≡ 0
    nobody agent le = ap (λ (b : Bool). cond b 1 0) (ne_eqb (suc (suc (suc (suc (suc (suc (suc (suc m)))))))) agent (λ is. absurd (omega arith)))

-- how many of the units are the agent's
counted : List ShownUnit → ℕ → ℕ
counted units agent = count_by (λ u. u.agent == agent) units

counted-cons : (u : ShownUnit) (units : List ShownUnit) (agent : ℕ) → counted (u ∷ units) agent ≡ is_at u.agent agent + counted units agent
unfolding is_at counted
counted-cons u units agent = sum_by-cons (λ (x : ShownUnit). cond (x.agent == agent) 1 0) u units

all_counted : (units : List ShownUnit) →
    counted units 0 + counted units 1 + counted units 2 + counted units 3 + counted units 4 + counted units 5 + counted units 6 + counted units 7 ≤ length units
unfolding counted
all_counted [] = omega arith
all_counted (u ∷ units) =
    omega (
      arith,
      all_counted units,
      one_owner u.agent,
      counted-cons u units 0,
      counted-cons u units 1,
      counted-cons u units 2,
      counted-cons u units 3,
      counted-cons u units 4,
      counted-cons u units 5,
      counted-cons u units 6,
      counted-cons u units 7,
    )

-- ---- the trades of a closing

at_least : (n : ℕ) → (n == 0) ≡ false → 1 ≤ n
at_least n h = grind (arith, nat_tests)

module _ (good price : ℕ) (wins : ℕ → ℕ) where
  trades_for : List ℕ → List Trade
  trades_for owners = filter_map (winner_trade good price wins) owners

  one_more : (agent : ℕ) (owners : List ℕ) → traded (trades_for (agent ∷ owners)) ≡ wins agent + traded (trades_for owners)
  unfolding trades_for
  one_more agent owners = by_test (wins agent == 0) refl
    where
      by_test : (b : Bool) → (wins agent == 0) ≡ b → traded (trades_for (agent ∷ owners)) ≡ wins agent + traded (trades_for owners)
      by_test true is = rw is (omega (arith, number_is (wins agent) 0 is))
      by_test false is = rw is (omega (arith, sum_by-cons (λ (t : Trade). t.units) (record { buyer = agent; seller = 8; good = good; units = wins agent; price = price }) (trades_for owners)))

  some_sold : (owners : List ℕ) → AllByRecursion (λ (t : Trade). 1 ≤ t.units) (trades_for owners)
  unfolding trades_for
  some_sold [] = tt
  some_sold (agent ∷ owners) = by_test (wins agent == 0) refl (some_sold owners)
    where
      by_test : (b : Bool) → (wins agent == 0) ≡ b → AllByRecursion (λ (t : Trade). 1 ≤ t.units) (trades_for owners) → AllByRecursion (λ (t : Trade). 1 ≤ t.units) (trades_for (agent ∷ owners))
      by_test true is more = rw is more
      by_test false is more = rw is (at_least (wins agent) is, more)

  all_sold : traded (winner_trades good price wins) ≡ wins 0 + wins 1 + wins 2 + wins 3 + wins 4 + wins 5 + wins 6 + wins 7
  unfolding trades_for
  all_sold =
      let none : traded (trades_for []) ≡ 0 = refl in
      omega (
        arith,
        none,
        one_more 7 [],
        one_more 6 (7 ∷ []),
        one_more 5 (6 ∷ 7 ∷ []),
        one_more 4 (5 ∷ 6 ∷ 7 ∷ []),
        one_more 3 (4 ∷ 5 ∷ 6 ∷ 7 ∷ []),
        one_more 2 (3 ∷ 4 ∷ 5 ∷ 6 ∷ 7 ∷ []),
        one_more 1 (2 ∷ 3 ∷ 4 ∷ 5 ∷ 6 ∷ 7 ∷ []),
        one_more 0 (1 ∷ 2 ∷ 3 ∷ 4 ∷ 5 ∷ 6 ∷ 7 ∷ []),
      )

few_won : (rooms : ℕ) (units : List ShownUnit) →
    won rooms units 0 + won rooms units 1 + won rooms units 2 + won rooms units 3 + won rooms units 4 + won rooms units 5 + won rooms units 6 + won rooms units 7 ≤ length units
unfolding counted
few_won rooms units = omega (arith, all_counted (take rooms units), length-take {A = ShownUnit} rooms units)

-- a closing sells no more than 128 units, and leaves none to sell
pub closing_spends : (good price rooms : ℕ) (units : List ShownUnit) (trades : List Trade) → length units ≤ 128 → trades ≡ winner_trades good price (won rooms units) → Spends 128 0 trades
unfolding trades_for
closing_spends good price rooms units trades few is =
    subst (λ (ts : List Trade). Spends 128 0 ts) (sym is)
    (record {
      some = All-from_recursion (λ (t : Trade). 1 ≤ t.units) (winner_trades good price (won rooms units)) (some_sold good price (won rooms units) agents);
      few = omega (arith, all_sold good price (won rooms units), few_won rooms units, few);
    })

-- each trade of a closing is short
pub closing_short : (good price : ℕ) (wins : ℕ → ℕ) (trades : List Trade) → price ≤ BID_PRICE → ((agent : ℕ) → wins agent ≤ 16) → trades ≡ winner_trades good price wins → All IsShort trades
closing_short good price wins trades priced few is =
    subst (λ (ts : List Trade). All IsShort ts) (sym is) (All-from_recursion IsShort (winner_trades good price wins) (each agents))
  where
    each : (owners : List ℕ) → AllByRecursion IsShort (filter_map (winner_trade good price wins) owners)
    each [] = tt
    each (agent ∷ owners) = by_test (wins agent == 0) refl (each owners)
      where
        by_test : (b : Bool) → (wins agent == 0) ≡ b → AllByRecursion IsShort (filter_map (winner_trade good price wins) owners) → AllByRecursion IsShort (filter_map (winner_trade good price wins) (agent ∷ owners))
        by_test true is rest = rw is rest
        by_test false is rest = rw is (record { some = at_least (wins agent) is; few = few agent; priced = priced }, rest)
