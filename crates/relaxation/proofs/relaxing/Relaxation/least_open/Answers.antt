use Rattle.std.proofs.Common.{arith}
use Rattle.relaxation.proofs.SplitLaws.{full_of_places}
use Rattle.relaxation.proofs.relaxing.Relaxation.least_open.Goals as goal

pub returns-clause-full : goal.returns-clause-full
returns-clause-full c = full_of_places c.args.fixed.now c.loop-place.best c.loop-place.place (omega arith) c.loop-place.invariant.rest
