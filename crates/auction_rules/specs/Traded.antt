-- How many units trades move, and how many are then left to trade.
use Rattle.std.specs.Prelude.{ℕ, ◌+◌, ◌≤◌, List, All, sum_by}
use Rattle.auction_rules.specs.Prelude.{Trade, BID_UNITS, BID_PRICE}

-- the units of all trades
abbrev pub traded : List Trade → ℕ
traded trades = sum_by (λ t. t.units) trades

-- a trade that a log can show: of 1 to 16 units, each at a price of at most 10000 dollars
pub record IsShort (trade : Trade) : Type 0 where
  pub some : 1 ≤ trade.units
  pub few : trade.units ≤ BID_UNITS
  pub priced : trade.price ≤ BID_PRICE

-- each trade has a unit, and if `before` units could be traded, `after` can be traded later
pub record Spends (before after : ℕ) (trades : List Trade) : Type 0 where
  pub some : All (λ t. 1 ≤ t.units) trades
  pub few : traded trades + after ≤ before
