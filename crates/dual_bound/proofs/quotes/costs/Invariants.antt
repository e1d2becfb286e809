use Rattle.std.proofs.Common.{◌≡◌, ℕ, ◌<◌, Some, length, get_or, slice_get}
use Rattle.dual_bound.specs.Prelude.{Package, packages, cost_of}
use Rattle.dual_bound.proofs.quotes.costs.Given as goal

abbrev pub invariant-loop-number : goal.invariant-loop-number
invariant-loop-number l = record {
  long : length l.costs ≡ 393;
  each : (n : ℕ) (p : Package) → n < l.number → slice_get packages n ≡ Some p → get_or l.costs n 0 ≡ cost_of l.prices p;
}
