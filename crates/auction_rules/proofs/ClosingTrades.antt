-- The trades of a hotel's closing move as many units as are sold.
use Rattle.std.proofs.Common.{◌≡◌, ℕ, ◌+◌, Bool, true, false, cond, List, [], ◌∷◌, refl, sym, ap, ◌∙◌, arith, ◌==◌, filter, count_by, sum_by, filter_map, flat_map}
use Rattle.std.proofs.lemmas.List.Sums.{sum_by-cons, sum_by-append}
use Rattle.auction_rules.specs.{Trade, agents, house, Entry, stand, wins, ask, winning, closing_trade, closing_trades, sold_units, traded}
use Rattle.auction_rules.specs.declared.units.BidUnit.{BidUnit}
use Rattle.auction_rules.specs.declared.rules.Rules.{Rules}
use Rattle.auction_rules.proofs.AgentUnits.{units_joined}
use Rattle.auction_rules.proofs.Counts.{count-filter}
use Rattle.auction_rules.proofs.Standing.{number_is}

count-flat_map : (p : BidUnit → Bool) (f : ℕ → List BidUnit) (owners : List ℕ) → count_by p (flat_map f owners) ≡ sum_by (λ a. count_by p (f a)) owners
count-flat_map p f [] = refl
count-flat_map p f (a ∷ owners) =
    sum_by-append (λ u. cond (p u) 1 0) (f a) (flat_map f owners)
    ∙ ap (λ k. count_by p (f a) + k) (count-flat_map p f owners)
    ∙ sym (sum_by-cons (λ b. count_by p (f b)) a owners)

same_sums : (f g : ℕ → ℕ) → ((a : ℕ) → f a ≡ g a) → (owners : List ℕ) → sum_by f owners ≡ sum_by g owners
same_sums f g same [] = refl
same_sums f g same (a ∷ owners) = sum_by-cons f a owners ∙ rw (same a, same_sums f g same owners) (sym (sum_by-cons g a owners))

module _ (good rooms : ℕ) (units : List BidUnit) where
  -- each agent buys the units that it wins
  each_buys : (owners : List ℕ) → traded (filter_map (closing_trade good rooms units) owners) ≡ sum_by (winning rooms units) owners
  each_buys [] = refl
  each_buys (agent ∷ owners) = by_test (winning rooms units agent == 0) refl (each_buys owners)
    where
      by_test : (b : Bool) → (winning rooms units agent == 0) ≡ b → traded (filter_map (closing_trade good rooms units) owners) ≡ sum_by (winning rooms units) owners →
          traded (filter_map (closing_trade good rooms units) (agent ∷ owners)) ≡ sum_by (winning rooms units) (agent ∷ owners)
      by_test true is ih =
          let sum = sum_by-cons (winning rooms units) agent owners in let zero_units = number_is (winning rooms units agent) 0 is in
          rw is (omega (arith, ih, sum, zero_units))
      by_test false is ih =
          let sum = sum_by-cons (winning rooms units) agent owners in
          let first = sum_by-cons (λ (t : Trade). t.units) (record { buyer = agent; seller = house; good = good; units = winning rooms units agent; price = ask rooms units }) (filter_map (closing_trade good rooms units) owners) in
          rw is (omega (arith, ih, sum, first))

-- a closing moves the units that are sold
pub closing_moves : (good rooms : ℕ) (rules : Rules) (past : List Entry) → traded (closing_trades good rooms (stand rules past)) ≡ sold_units rooms (stand rules past)
closing_moves good rooms rules past =
    each_buys good rooms (stand rules past) agents
    ∙ same_sums (winning rooms (stand rules past)) (λ a. count_by test (filter (λ u. u.agent == a) (stand rules past))) (λ a. sym (count-filter (λ u. u.agent == a) test (stand rules past))) agents
    ∙ sym (count-flat_map test (λ a. filter (λ u. u.agent == a) (stand rules past)) agents)
    ∙ ap (count_by test) (units_joined rules past)
  where
    test : BidUnit → Bool
    test = wins rooms (stand rules past)
