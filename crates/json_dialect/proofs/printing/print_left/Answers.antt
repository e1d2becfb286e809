use Rattle.json_dialect.proofs.OneObject.{points_line}
use Rattle.json_dialect.proofs.printing.print_left.Goals as goal

pub returns-clause-one_line : goal.returns-clause-one_line
returns-clause-one_line c = points_line c.args.left.now c.as_slice.ensures.within
