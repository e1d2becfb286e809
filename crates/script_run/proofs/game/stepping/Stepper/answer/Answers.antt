use Rattle.std.proofs.Common.{refl}
use Rattle.script_run.proofs.Answering.{answers_all, answers_bad, answers_part}
use Rattle.script_run.proofs.game.stepping.Stepper.answer.Goals as goal

pub returns-in-Ok-heard-clause-answered : goal.returns-in-Ok-heard-clause-answered
returns-in-Ok-heard-clause-answered g c game given start has =
    answers_all game given c.args.piece.now start (g.K.Sink.state c.args.out.now) (g.K.Sink.state c.flush.new.out) c.args.self.now has c.hear-heard.new.self.run.text.items
    c.flush.new.self c.flush.ensures.empty (c.flush.ensures.stepping game _ has.written (c.in-Ok-heard.ensures.lines game given has.written has.stepping)) c.in-Ok.ensures.writes

pub returns-in-Err-heard-clause-answered : goal.returns-in-Err-heard-clause-answered
returns-in-Err-heard-clause-answered g c game given start has =
    rw c.step_fault.ensures
    (answers_bad game given c.args.piece.now start (g.K.Sink.state c.args.out.now) (g.K.Sink.state c.flush.new.out) c.args.self.now has c.hear-heard.new.self.run.text.items
    c.hear-heard.new.self c.flush.new.self c.in-Err-heard.bad refl (c.in-Err-heard.ensures.lines game given has.written has.stepping) c.in-Ok.ensures.writes)

pub returns-in-Err-clause-answered : goal.returns-in-Err-clause-answered
returns-in-Err-clause-answered g c game given start has =
    answers_part game given c.args.piece.now start (g.K.Sink.state c.args.out.now) (g.K.Sink.state c.flush.new.out) c.args.self.now has c.hear-heard.new.self.run.text.items
    c.hear-heard.new.self c.hear-heard.result refl (c.hear-heard.ensures.lines game given has.written has.stepping) c.in-Err.ensures.writes
