use Rattle.std.proofs.Common.{◌≡◌, ℕ, ◌<◌, true, get_or}
use Rattle.packages.specs.declared.travel_packages.Package.TheVariants as kinds
use Rattle.dual_bound.specs.Choices.{chosen}
use Rattle.dual_bound.proofs.settling.are_left.Given as goal

abbrev pub invariant-loop-client : goal.invariant-loop-client
invariant-loop-client l = (k : ℕ) → k < l.client → chosen l.choice k (get_or l.allocation k kinds.None) ≡ true
