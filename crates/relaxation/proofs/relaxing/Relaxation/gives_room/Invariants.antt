use Rattle.std.proofs.Common.{◌≤◌}
use Rattle.relaxation.proofs.relaxing.Relaxation.gives_room.Given as goal

abbrev pub invariant-loop-margin : goal.invariant-loop-margin
invariant-loop-margin l = l.count ≤ l.margin-index
