use Rattle.std.proofs.Common.{◌≡◌, ℕ, ◌<◌, Some, false, slice_get}
use Rattle.allocator.specs.Prelude.{Package, packages, chosen}
use Rattle.allocator.proofs.candidates.first_left.Given as goal

abbrev pub invariant-loop-n : goal.invariant-loop-n
invariant-loop-n l = (m : ℕ) (p : Package) → m < l.n → slice_get packages m ≡ Some p → chosen l.choice l.client p ≡ false
