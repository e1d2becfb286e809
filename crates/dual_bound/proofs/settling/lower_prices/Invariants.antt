use Rattle.std.proofs.Common.{ℕ, ◌<◌}
use Rattle.dual_bound.specs.Choices.{chosen}
use Rattle.dual_bound.specs.Settled.{IsSettledAt}
use Rattle.dual_bound.proofs.settling.lower_prices.Given as goal

abbrev pub invariant-loop-good : goal.invariant-loop-good
invariant-loop-good l = (good : ℕ) → good < l.good → IsSettledAt l.account (chosen l.choice) l.prices l.bound good
