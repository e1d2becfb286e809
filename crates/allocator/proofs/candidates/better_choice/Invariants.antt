use Rattle.std.proofs.Common.{◌≡◌, length, All}
use Rattle.packages.specs.Packages.{IsPackage}
use Rattle.allocator.proofs.candidates.better_choice.Given as goal

abbrev pub invariant-loop-client : goal.invariant-loop-client
invariant-loop-client l = record {
  eight : length l.allocation ≡ 8;
  lawful : All IsPackage l.allocation;
}
