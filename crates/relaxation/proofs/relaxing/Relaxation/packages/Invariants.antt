use Rattle.std.proofs.Common.{◌≡◌, length, All}
use Rattle.packages.specs.Packages.{IsPackage}
use Rattle.relaxation.proofs.relaxing.Relaxation.packages.Given as goal

abbrev pub invariant-loop-client : goal.invariant-loop-client
invariant-loop-client l = record {
  eight : length l.packages ≡ 8;
  lawful : All IsPackage l.packages;
}
