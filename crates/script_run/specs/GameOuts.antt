-- What playing a game script writes.
use Rattle.std.specs.Prelude.{◌≡◌, ℕ, ◌≤◌, List, ◌++◌, length, Ok}
use Rattle.script_run.specs.Prelude.{GameFile, TEXT_BYTES, ClosedGame, Scored, play_part, sheet_part, Play}
use Rattle.script_run.specs.declared.game.lines.GameLine.{GameLine}
use Rattle.script_run.specs.GameScripts.{game_script}
use Rattle.script_run.specs.OneThreadRun.{replies, closed_of, whole_game}

-- the histories of a whole game from the lines of a script, the last line first
abbrev pub closed_game : GameFile → List GameLine → ClosedGame
closed_game game lines = closed_of game (whole_game game lines)

-- what is written of a game before it is scored: the replies, and then the first part of the log
abbrev pub first_out : GameFile → List GameLine → List ℕ
first_out game lines = replies game lines ++ play_part Play (closed_game game lines)

-- what is written of a game with its sheet: the replies, and then the log
abbrev pub play_out : GameFile → List GameLine → List Scored → List ℕ
play_out game lines sheet = first_out game lines ++ sheet_part sheet

-- a script that is not too long, and whose lines are good
pub record IsGoodScript (script : List ℕ) (lines : List GameLine) : Type 0 where
  pub within : length script ≤ TEXT_BYTES
  pub good : game_script script ≡ Ok lines
