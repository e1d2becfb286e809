use Rattle.allocator.specs.Searching.{IsReached}
use Rattle.allocator.proofs.solving.explore_all.Given as goal

abbrev pub invariant-loop : goal.invariant-loop
invariant-loop l = record {
  reached : IsReached l.account l.best.allocation l.best.total;
}
