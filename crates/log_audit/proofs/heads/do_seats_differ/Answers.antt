use Rattle.std.proofs.Common.{◌≡◌, ℕ, ◌≤◌, get_or, sym, ◌∙◌, arith, subst, below_more}
use Rattle.log_text.specs.SoundLog.{seatings}
use Rattle.log_audit.proofs.Seated.{agent_is}
use Rattle.log_audit.proofs.heads.do_seats_differ.Goals as goal

pub returns-then-count_seats-gt1 : goal.returns-then-count_seats-gt1
returns-then-count_seats-gt1 c =
    let low = c.loop-agent-test.true in let k = c.loop-agent.agent-index in
    let here : get_or c.all-agent-items.result k c.agent-item.result ≡ k = sym c.agent-item.is ∙ agent_is c.all-agent-items.result k c.agent-item.result c.all-agent-items.ensures low c.agent-item.is in
    ((λ t. absurd cc), (λ all. let few = all (get_or c.all-agent-items.result k c.agent-item.result) (omega (arith, here, low)) in absurd (omega (arith, few, c.count_seats.ensures, c.if-count_seats-gt1.true))))

pub loop-agent-preserved : goal.loop-agent-preserved
loop-agent-preserved c =
    let low = c.loop-agent-test.true in let k = c.loop-agent.agent-index in
    let here : get_or c.all-agent-items.result k c.agent-item.result ≡ k = sym c.agent-item.is ∙ agent_is c.all-agent-items.result k c.agent-item.result c.all-agent-items.ensures low c.agent-item.is in
    below_more _ _ c.loop-agent.invariant (subst (λ (a : ℕ). seatings c.args.verdicts.now a ≤ 1) here (omega (arith, c.count_seats.ensures, c.if-count_seats-gt1.false)))
