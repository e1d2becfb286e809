use Rattle.std.proofs.Common.{◌≡◌, ◌≤◌, sum_by, take}
use Rattle.packages.specs.Packages.{use_of}
use Rattle.packages.proofs.allocations.used.Given as goal

abbrev pub invariant-loop-package : goal.invariant-loop-package
invariant-loop-package l = record {
  sum : l.total ≡ sum_by (λ p. use_of p l.good) (take l.package-index l.allocation);
  few : l.total ≤ l.package-index;
}
