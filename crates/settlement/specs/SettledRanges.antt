-- The ranges of what a game leaves to each agent.
use Rattle.std.specs.Prelude.{◌≡◌, List, ℤ, length, All}
use Rattle.settlement.specs.Prelude.{AGENTS, GOODS, IsWithin, IsHolding}
use Rattle.settlement.specs.Settlement.{Settlement}

-- a holding of each good, in its range
pub record AreHoldings (holdings : List ℤ) : Type 0 where
  pub count : length holdings ≡ GOODS
  pub each : All IsHolding holdings

-- the holdings and the cash of eight agents, in their ranges
pub record IsSettlement (settlement : Settlement) : Type 0 where
  pub holdings_count : length settlement.holdings ≡ AGENTS
  pub holdings : All AreHoldings settlement.holdings
  pub cash_count : length settlement.cash ≡ AGENTS
  pub cash : All (IsWithin 1000000000000000) settlement.cash
