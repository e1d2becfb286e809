use Rattle.std.proofs.Common.{◌≤◌}
use Rattle.relaxation.proofs.relaxing.Relaxation.open_parts.Given as goal

abbrev pub invariant-loop-bound : goal.invariant-loop-bound
invariant-loop-bound l = l.count ≤ l.bound-index
