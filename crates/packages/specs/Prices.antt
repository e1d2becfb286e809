-- What prices are.
use Rattle.std.specs.Prelude.{◌≡◌, ℕ, ◌≤◌, List, length, All}
use Rattle.tac_base.specs.declared.limits.TheConstants.{DUAL_PRICE, GOODS}

-- a price for each of the 28 goods, none of which is above the highest
pub record ArePrices (prices : List ℕ) : Type 0 where
  pub count : length prices ≡ GOODS
  pub each : All (λ price. price ≤ DUAL_PRICE) prices
