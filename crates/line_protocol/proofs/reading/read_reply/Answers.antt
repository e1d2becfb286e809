use Rattle.std.proofs.Common.{◌∙◌}
use Rattle.line_protocol.proofs.ReplyAgain.{text_again}
use Rattle.line_protocol.proofs.ReplyRead.{said_if}
use Rattle.line_protocol.proofs.reading.read_reply.Goals as goal

pub returns-clause-found : goal.returns-clause-found
returns-clause-found c = said_if c.args.line.now c.said_of.result c.said_of.ensures

pub returns-clause-only : goal.returns-clause-only
returns-clause-only c = λ said is. c.said_of.ensures ∙ text_again c.args.line.now said is
