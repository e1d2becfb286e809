-- Logs in their ranges, except for the number of lines of their certificates.
use Rattle.std.specs.Prelude.{◌≡◌, ◌≤◌, length, All}
use Rattle.game_log.specs.Prelude.{AGENTS, CASH_ENTRIES, GOODS, tree_lines, Scored, LoggedGame, IsLoggedHead, AreHistories, IsLoggedCashEntry, IsLoggedScore}

-- a score in its ranges, if its certificate has no more lines than 32 bits can count
abbrev pub IsRangedScore : Scored → Type 0
IsRangedScore scored = length (tree_lines scored.tree) ≤ 4294967295 → IsLoggedScore scored

-- A log in its ranges, except that nothing bounds the number of lines of its certificates.
pub record IsRanged (log : LoggedGame) : Type 0 where
  pub head : IsLoggedHead log.head
  pub goods : length log.histories ≡ GOODS
  pub histories : AreHistories 0 log.histories
  pub few_cash : length log.cash ≤ CASH_ENTRIES
  pub cash : All IsLoggedCashEntry log.cash
  pub agents : length log.scores ≡ AGENTS
  pub scores : All IsRangedScore log.scores
