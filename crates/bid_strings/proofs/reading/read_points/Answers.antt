use Rattle.bid_strings.proofs.Laws.{spelled_if}
use Rattle.bid_strings.proofs.reading.read_points.Goals as goal

pub returns-clause-spelled : goal.returns-clause-spelled
returns-clause-spelled c = spelled_if c.args.text.now c.points_of.result c.points_of.ensures
