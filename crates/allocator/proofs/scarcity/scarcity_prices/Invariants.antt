use Rattle.std.proofs.Common.{◌≡◌, ℕ, ◌<◌, ◌≤◌, length, get_or, All}
use Rattle.packages.specs.Stocks.{stock_of}
use Rattle.allocator.specs.Scarcity.{scarcity_price}
use Rattle.allocator.proofs.scarcity.scarcity_prices.Given as goal

abbrev pub invariant-loop-good : goal.invariant-loop-good
invariant-loop-good l = record {
  goods : length l.dollars ≡ 28;
  within : All (λ price. price ≤ 14001) l.dollars;
  done : (k : ℕ) → k < l.good → get_or l.dollars k 0 ≡ scarcity_price (stock_of l.account.holdings) l.allocation k;
}
