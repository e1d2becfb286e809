use Rattle.std.proofs.Common.{◌∙◌, ap, Err}
use Rattle.std.proofs.lemmas.Result.{err_from_is_err_and}
use Rattle.agent_gate.proofs.TurnEnds.{turn_none, turn_cut_off, turn_left}
use Rattle.agent_gate.proofs.turns.turn.Goals as goal

pub returns-in_err-said-clause-turn : goal.returns-in_err-said-clause-turn
returns-in_err-said-clause-turn g c =
    let p = err_from_is_err_and c.from_residual.result c.from_residual.ensures.1 in
    turn_none _ _ _ c.from_residual.result c.in_err-said.field-0.0 (p.1 ∙ ap (λ e. Err e) p.2) c.in_err-said.ensures.next c.answer_next.ensures.sent

pub returns-in_default-clause-turn : goal.returns-in_default-clause-turn
returns-in_default-clause-turn g c =
    turn_cut_off _ _ _ c.in_ok-said.said _ _ _ c.in_ok-said.ensures.next c.tell.ensures.place.0 c.tell.ensures.place.1 c.tell.ensures.sends.2 c.answer_next.ensures.sent c.in_default.ensures.sends.0

pub returns-in-Bye-clause-turn : goal.returns-in-Bye-clause-turn
returns-in-Bye-clause-turn g c =
    turn_left _ _ _ c.in_ok-said.said _ _ _ c.in_ok-said.ensures.next c.tell.ensures.place.0 c.tell.ensures.place.1 c.tell.ensures.sends.2 c.answer_next.ensures.sent c.in-Bye.is c.in-Ok.ensures.sends.0
