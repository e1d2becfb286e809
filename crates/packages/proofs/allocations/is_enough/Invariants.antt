use Rattle.std.proofs.Common.{ℕ, ◌<◌, ◌≤◌}
use Rattle.packages.specs.Stocks.{stock_of}
use Rattle.packages.specs.BestTotal.{used_by}
use Rattle.packages.proofs.allocations.is_enough.Given as goal

abbrev pub invariant-loop-number : goal.invariant-loop-number
invariant-loop-number l = (k : ℕ) → k < l.number → used_by l.allocation k ≤ stock_of l.account.holdings k
