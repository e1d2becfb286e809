use Rattle.std.proofs.Common.{◌≤◌}
use Rattle.allocator.specs.Searching.{IsReached}
use Rattle.allocator.proofs.searching.dive.Given as goal

abbrev pub invariant-loop : goal.invariant-loop
invariant-loop l = record {
  reached : IsReached l.account l.best.allocation l.best.total;
  grows : l.initial.best.total ≤ l.best.total;
}
