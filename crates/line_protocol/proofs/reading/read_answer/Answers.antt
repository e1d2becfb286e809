use Rattle.std.proofs.Common.{◌∙◌}
use Rattle.line_protocol.proofs.ReplyAgain.{answer_again}
use Rattle.line_protocol.proofs.ReplyRead.{answer_if}
use Rattle.line_protocol.proofs.reading.read_answer.Goals as goal

pub returns-clause-found : goal.returns-clause-found
returns-clause-found c = answer_if c.args.text.now c.answer_of.result c.answer_of.ensures

pub returns-clause-only : goal.returns-clause-only
returns-clause-only c = λ reply is. c.answer_of.ensures ∙ answer_again c.args.text.now reply is
