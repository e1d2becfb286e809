use Rattle.link_audit.specs.Prelude.{said_text, json_text}
use Rattle.link_audit.proofs.OneLines.{one_line_of, json_line, said_line}
use Rattle.link_audit.proofs.laws.line_replies.Goals as goal

pub returns-clause-words : goal.returns-clause-words
returns-clause-words c = λ reply. one_line_of (said_text reply) (said_line reply)

pub returns-clause-json : goal.returns-clause-json
returns-clause-json c = λ reply. one_line_of (json_text reply) (json_line reply)
