-- What a game fixes for an auction before its first call: by the game description, except for rooms other than 16 and live quotes,
-- which are our own.
use Rattle.std.specs.Prelude.{ℕ, List, ℤ}
use Rattle.auction_rules.specs.declared.rules.Rules.{Rules}

-- an auction's good, its rules, and how many units of the good each agent has at the start
pub record Setup : Type 0 where
  pub good : ℕ
  pub rules : Rules
  -- in the order of the agents
  pub endow : List ℤ
