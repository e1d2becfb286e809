use Rattle.std.proofs.Common.{◌≡◌, Ok, Err, subst, sym}
use Rattle.agent_gate.specs.Items.{Asks, IsItem}
use Rattle.tac_io.specs.declared.line_got.LineGot.TheVariants as gots
use Rattle.agent_gate.proofs.Making.{taken_as, line_refused}
use Rattle.agent_gate.proofs.answering.answer_line.Goals as goal

pub returns-in-Ok-clause-turn : goal.returns-in-Ok-clause-turn
returns-in-Ok-clause-turn g c =
    taken_as (λ item. item ≡ Asks (Ok c.in-Ok.request)) (IsItem (g.D.Dialect.form c.args.dialect.now).may_answer (gots.Line, c.args.line.now)) _ _ _
    (λ item is. subst (IsItem (g.D.Dialect.form c.args.dialect.now).may_answer (gots.Line, c.args.line.now)) (sym is) c.in-Ok.ensures) c.answer.ensures.turn

pub returns-in-Err-clause-turn : goal.returns-in-Err-clause-turn
returns-in-Err-clause-turn g c =
    taken_as (λ item. item ≡ Asks (Err c.in-Err.fault)) (IsItem (g.D.Dialect.form c.args.dialect.now).may_answer (gots.Line, c.args.line.now)) _ _ _
    (λ item is. subst (IsItem (g.D.Dialect.form c.args.dialect.now).may_answer (gots.Line, c.args.line.now)) (sym is) c.in-Err.ensures) (line_refused c.in-Err.fault _)
