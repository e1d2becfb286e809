use Rattle.json_dialect.specs.JsonReplies.{reply_members}
use Rattle.json_dialect.proofs.OneObject.{placed_line}
use Rattle.json_dialect.proofs.printing.print_answer.Goals as goal

pub returns-clause-one_line : goal.returns-clause-one_line
returns-clause-one_line c = placed_line c.args.position (reply_members c.args.reply.now) c.print_place.ensures.one_line c.print_members.ensures.one_line
