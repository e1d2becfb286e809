use Rattle.std.proofs.Common.{◌≡◌, ℕ, ◌^◌, ℤ, pos, ◌+ℤ◌, Option, Some, None}
use Rattle.packages.specs.Bounds.{leaf_bound}
use Rattle.packages.specs.Stocks.{at_least_none}
use Rattle.dual_bound.specs.Choices.{chosen}
use Rattle.dual_bound.proofs.settling.settle.Given as goal

-- how far a bound is above the least one that there may be
abbrev rank : Option ℤ → ℕ
rank None = 0
rank (Some bound) = at_least_none (bound +ℤ pos (2 ^ 63))

abbrev pub decreases-loop-other : goal.decreases-loop-other
decreases-loop-other l = rank l.bound

abbrev pub invariant-loop-other : goal.invariant-loop-other
invariant-loop-other l = l.bound ≡ leaf_bound l.account (chosen l.choice) l.prices
