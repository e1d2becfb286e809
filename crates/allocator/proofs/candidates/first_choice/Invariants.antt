use Rattle.std.proofs.Common.{◌≡◌, ℕ, ◌<◌, true, length, get_or}
use Rattle.packages.specs.declared.travel_packages.Package.TheVariants as kinds
use Rattle.allocator.specs.Prelude.{is_package, chosen}
use Rattle.allocator.proofs.candidates.first_choice.Given as goal

abbrev pub invariant-loop-client : goal.invariant-loop-client
invariant-loop-client l = record {
  eight : length l.allocation ≡ 8;
  lawful : (k : ℕ) → is_package (get_or l.allocation k kinds.None) ≡ true;
  kept : (k : ℕ) → k < l.client → chosen l.choice k (get_or l.allocation k kinds.None) ≡ true;
}
