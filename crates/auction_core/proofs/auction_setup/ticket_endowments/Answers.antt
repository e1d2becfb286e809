use Rattle.std.proofs.Common.{◌≡◌, ℕ, ◌-◌, ◌≢◌, List, [], ℤ, pos, get_or, map, length, length-set, below_more, sym, ap, subst, ◌∙◌, arith, to_z, of_z, w32, get_or-set_same, get_or-set_other, ext_get_or, All}
use Rattle.std.proofs.lemmas.Int.{ints}
use Rattle.std.proofs.lemmas.List.{get_or-map, length-map}
use Rattle.auction_core.specs.{GameFile, IsEndowment, AreEndowed}
use Rattle.auction_core.proofs.Starting.{tickets_endowed}
use Rattle.auction_core.proofs.auction_setup.ticket_endowments.Goals as goal

pub loop-agent-preserved : goal.loop-agent-preserved
loop-agent-preserved c =
    let held = c.loop-agent.held in let agent : ℕ = c.loop-agent.agent in let place : ℕ = c.from-place.result in
    let value : ℤ = to_z w32 (of_z w32 c.from.result) in
    let same : value ≡ c.from.result = omega (arith, ints, c.from.type_inv) in
    let placed : place ≡ c.args.good - 16 = c.from-place.ensures ∙ ap (λ (n : ℕ). n - 16) c.get.ensures.value in
    record {
      eight = length-set held agent value ∙ c.loop-agent.invariant.eight;
      each = below_more _ _
          (λ k lt. let other : k ≢ agent = λ e. absurd (omega arith) in get_or-set_other held agent k value (pos 0) other ∙ c.loop-agent.invariant.each k lt)
          (get_or-set_same held agent value (pos 0) (omega (arith, c.loop-agent.invariant.eight, c.loop-agent-test.true))
          ∙ (same ∙ (c.from.ensures ∙ (ap (λ (n : ℕ). pos (get_or (get_or c.game.inside.endow agent []) n 0)) placed
          ∙ ap (λ (game : GameFile). pos (get_or (get_or game.endow agent []) (c.args.good - 16) 0)) c.game.view_is))));
    }

pub returns-clause-value : goal.returns-clause-value
returns-clause-value c =
    let endow = c.args.game.now.endow in
    let eight : length endow ≡ 8 = subst (λ (game : GameFile). length game.endow ≡ 8) c.game.view_is c.game.invariant.agents.endow_count in
    let read : List ℕ → ℤ = λ tickets. pos (get_or tickets (c.args.good - 16) 0) in
    ext_get_or (pos 0) c.loop-agent.held (map read endow) (omega (arith, c.loop-agent.invariant.eight, length-map endow read, eight))
    (λ i lt. c.loop-agent.invariant.each i (omega (arith, lt, c.loop-agent.invariant.eight, c.loop-agent-test.false)) ∙ sym (get_or-map read endow i [] (pos 0) (omega (arith, lt, c.loop-agent.invariant.eight, eight))))

pub returns-clause-few : goal.returns-clause-few
returns-clause-few c =
    subst AreEndowed (sym (returns-clause-value c))
    (tickets_endowed c.args.game.now.endow (c.args.good - 16) (subst (λ (game : GameFile). All IsEndowment game.endow) c.game.view_is c.game.invariant.agents.endow))
