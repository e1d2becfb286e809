use Rattle.log_reader.proofs.Sides.{cut_sides}
use Rattle.log_reader.proofs.line_forms.entries.sides_of.Goals as goal

pub returns : goal.returns
returns c =
    cut_sides c.args.text.now c.in_ok-call.call.now c.in_ok-call.reply.now c.in_ok-left.left.now c.in_ok-right.right.now c.in_ok-call.ensures.parts c.in_ok-left.ensures c.in_ok-right.ensures
