use Rattle.std.proofs.Common.{◌<◌, IfSome}
use Rattle.relaxation.proofs.tableau.Tableau.leaving.Given as goal

abbrev pub invariant-loop-row : goal.invariant-loop-row
invariant-loop-row l = IfSome l.first (λ row. row < 36)
