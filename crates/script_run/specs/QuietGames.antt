-- The summary of a game by a script.
use Rattle.std.specs.Prelude.{◌≡◌, ℕ, List}
use Rattle.script_run.specs.Prelude.{GameFile, Scored, IsSheetOf}
use Rattle.script_run.specs.declared.game.lines.GameLine.{GameLine}
use Rattle.script_run.specs.declared.game.play_count.PlayCount.{PlayCount}
use Rattle.script_run.specs.OneThreadRun.{whole_game, count_in}
use Rattle.script_run.specs.GameOuts.{closed_game, IsGoodScript}

-- the count and some sheet of the game by a script
pub record IsSummary (game : GameFile) (script : List ℕ) (count : PlayCount) (sheet : List Scored) : Type 0 where
  pub lines : List GameLine
  pub good : IsGoodScript script lines
  pub is : count ≡ count_in (whole_game game lines)
  pub scores : IsSheetOf game (closed_game game lines) sheet
