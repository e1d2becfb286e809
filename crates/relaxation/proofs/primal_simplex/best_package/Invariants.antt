use Rattle.std.proofs.Common.{◌<◌}
use Rattle.relaxation.proofs.primal_simplex.best_package.Given as goal

abbrev pub invariant-loop-number : goal.invariant-loop-number
invariant-loop-number l = l.best < 393
