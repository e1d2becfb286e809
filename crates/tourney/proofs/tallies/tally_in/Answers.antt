use Rattle.tourney.proofs.Ranges.{in_range}
use Rattle.tourney.proofs.tallies.tally_in.Goals as goal

pub returns-clause-range : goal.returns-clause-range
returns-clause-range c = in_range 64 c.args.tallies.now.entries c.args.place c.index.result.now c.index.ensures c.requires.each
