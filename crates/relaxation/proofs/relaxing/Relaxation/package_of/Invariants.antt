use Rattle.std.proofs.Common.{◌<◌}
use Rattle.relaxation.proofs.relaxing.Relaxation.package_of.Given as goal

abbrev pub invariant-loop-row : goal.invariant-loop-row
invariant-loop-row l = l.number < 393
