use Rattle.std.proofs.Common.{subst}
use Rattle.tac_io.specs.Lines.{held_of}
use Rattle.tac_io.specs.declared.line_got.LineGot.TheVariants as gots
use Rattle.agent_gate.specs.{IsItem, TakesTurn}
use Rattle.agent_gate.proofs.Making.{line_skipped}
use Rattle.agent_gate.proofs.turns.answer_next.Goals as goal

pub returns-in-Line-clause-next : goal.returns-in-Line-clause-next
returns-in-Line-clause-next g c = record {
  got = gots.Line;
  answer = c.in-Line.ensures.answer;
  within = c.in-Line.ensures.budget;
  asked = subst (λ line. TakesTurn (IsItem (g.D.Dialect.form c.args.dialect.now).may_answer (gots.Line, line)) c.args.desk.now c.answer_line.new.desk c.answer_line.result) c.line.ensures c.answer_line.ensures.turn;
}

pub returns-in-TooLong-clause-next : goal.returns-in-TooLong-clause-next
returns-in-TooLong-clause-next g c = record {
  got = gots.TooLong;
  answer = c.in-TooLong.ensures.answer;
  within = c.in-TooLong.ensures.budget;
  asked = line_skipped (IsItem (g.D.Dialect.form c.args.dialect.now).may_answer (gots.TooLong, (held_of c.next.new.self).line)) _ tt;
}
