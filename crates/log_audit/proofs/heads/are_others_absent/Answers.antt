use Rattle.std.proofs.Common.{◌≡◌, get_or, refl, sym, subst, ap, ◌∙◌, arith, below_more}
use Rattle.log_text.specs.SoundLog.{seatings, HasNoEntry}
use Rattle.log_audit.proofs.Seated.{agent_is}
use Rattle.log_audit.proofs.heads.are_others_absent.Goals as goal
use Rattle.log_audit.proofs.heads.are_others_absent.Goals.{else-count_seats-eq0-via-then-count_seats-eq0+else-not-is_absent, else-count_seats-eq0-via-else-count_seats-eq0}

pub loop-agent-preserved : goal.loop-agent-preserved
loop-agent-preserved c =
    let is = agent_is c.all-agent-items.result c.loop-agent.agent-index c.agent-item.result c.all-agent-items.ensures c.loop-agent-test.true c.agent-item.is in
    let here : get_or c.all-agent-items.result c.loop-agent.agent-index c.agent-item.result ≡ c.loop-agent.agent-index = sym c.agent-item.is ∙ is in
    below_more _ _ c.loop-agent.invariant (elim c.else-count_seats-eq0.branch [
      | else-count_seats-eq0-via-then-count_seats-eq0+else-not-is_absent w ↦ (λ none. subst (HasNoEntry c.args.log.now) here (w.is_absent.ensures.0 w.if-not-is_absent.false))
      | else-count_seats-eq0-via-else-count_seats-eq0 w ↦
          (λ none. let some = w.if-count_seats-eq0.false in absurd (some (c.count_seats.ensures ∙ (ap (seatings c.args.verdicts.now) here ∙ none))))
    ])

pub returns : goal.returns
returns c = let past = c.loop-agent-test.false in ((λ t agent le none. c.loop-agent.invariant agent (omega (arith, past, le)) none), (λ all. refl))
