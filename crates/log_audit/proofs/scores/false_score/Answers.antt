use Rattle.std.proofs.Common.{◌≡◌, get_or, sym, ◌∙◌, subst, below_more, arith}
use Rattle.std.proofs.lemmas.Option.{slice_get_within}
use Rattle.log_audit.specs.{IsDueScore, settlement_of, auctions_in, HasDueScore}
use Rattle.log_audit.proofs.Seated.{agent_is}
use Rattle.log_audit.proofs.Positions.{same_at}
use Rattle.log_audit.proofs.scores.false_score.Goals as goal

pub returns-then-not-is_due : goal.returns-then-not-is_due
returns-then-not-is_due c =
    let agent = get_or c.all-agent-items.result c.loop-agent.agent-index c.agent-item.result in let line = c.score.result.now in
    let is : agent ≡ c.loop-agent.agent-index =
    sym c.agent-item.is ∙ agent_is c.all-agent-items.result c.loop-agent.agent-index c.agent-item.result c.all-agent-items.ensures c.loop-agent-test.true c.agent-item.is in (
      (λ free. let due = free line c.score.ensures.value in
          let yes = c.is_due.ensures.1 (subst (λ s. IsDueScore c.args.game.now s agent line) (sym c.requires.accounts) due) in
          let no = c.if-not-is_due.true in absurd cc),
      (λ k lt. c.loop-agent.invariant k (omega (arith, lt, is))),
    )

pub loop-agent-preserved : goal.loop-agent-preserved
loop-agent-preserved c =
    let agent = get_or c.all-agent-items.result c.loop-agent.agent-index c.agent-item.result in let line = c.score.result.now in
    let is : agent ≡ c.loop-agent.agent-index =
    sym c.agent-item.is ∙ agent_is c.all-agent-items.result c.loop-agent.agent-index c.agent-item.result c.all-agent-items.ensures c.loop-agent-test.true c.agent-item.is in
    let due : IsDueScore c.args.game.now (settlement_of (auctions_in c.args.game.now c.args.log.now)) agent line = subst (λ s. IsDueScore c.args.game.now s agent line) c.requires.accounts (c.is_due.ensures.0 c.if-not-is_due.false) in
    let here : HasDueScore c.args.game.now c.args.log.now agent =
    λ scored at. subst (IsDueScore c.args.game.now (settlement_of (auctions_in c.args.game.now c.args.log.now)) agent) (same_at c.args.log.now.scores agent line scored c.score.ensures.value at) due in
    below_more _ _ c.loop-agent.invariant (subst (HasDueScore c.args.game.now c.args.log.now) is here)

pub returns : goal.returns
returns c = λ agent scored at.
    let agents = c.requires.logged.agents in let inside = slice_get_within c.args.log.now.scores agent scored at in let past = c.loop-agent-test.false in
    c.loop-agent.invariant agent (omega (arith, agents, inside, past)) scored at
