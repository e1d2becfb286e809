use Rattle.std.proofs.Common.{◌<◌}
use Rattle.packages.specs.Features.{values_of}
use Rattle.relaxation.proofs.relaxing.Relaxation.best_value.Given as goal

abbrev pub invariant-loop-value : goal.invariant-loop-value
invariant-loop-value l = l.found < values_of l.feature
