use Rattle.line_protocol.proofs.OneLine.{left_line}
use Rattle.line_protocol.proofs.printing.print_left.Goals as goal

pub returns-clause-one_line : goal.returns-clause-one_line
returns-clause-one_line c = left_line c.args.left.now c.as_slice.ensures.within
