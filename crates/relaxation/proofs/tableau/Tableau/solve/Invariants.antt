use Rattle.std.proofs.Common.{◌<◌, ◌≤◌}
use Rattle.relaxation.proofs.tableau.Tableau.solve.Given as goal

abbrev pub invariant-loop-step : goal.invariant-loop-step
invariant-loop-step l = record {
  turn : l.turn < 8;
  idle : l.idle ≤ l._step;
}
