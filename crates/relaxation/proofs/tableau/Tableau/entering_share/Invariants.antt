use Rattle.std.proofs.Common.{◌<◌}
use Rattle.relaxation.proofs.tableau.Tableau.entering_share.Given as goal

abbrev pub invariant-loop-number : goal.invariant-loop-number
invariant-loop-number l = l.first < 393
