use Rattle.std.proofs.Common.{◌≡◌, ℕ, ◌<◌, [], Some, length, get_or, slice_get}
use Rattle.relaxation.specs.{Package, packages, features_of}
use Rattle.relaxation.proofs.features.table.Given as goal

abbrev pub invariant-loop-number : goal.invariant-loop-number
invariant-loop-number l = record {
  long : length l.values ≡ 393;
  each : (n : ℕ) (p : Package) → n < l.number → slice_get packages n ≡ Some p → get_or l.values n [] ≡ features_of p;
}
