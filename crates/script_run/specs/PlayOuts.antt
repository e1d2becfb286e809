-- The effect of playing a game script on a sink, and what is known of the game.
use Rattle.std.specs.Prelude.{◌≡◌, ℕ, ◌<◌, ◌≤◌, ◌⊎◌, List, length, Result, Ok, Err}
use Rattle.script_run.specs.Prelude.{SinkState, GameFile, TEXT_BYTES, Scored, IsSheetOf, IsShowable, TookWhole, TookPart, Play}
use Rattle.script_run.specs.declared.game.lines.GameLine.{GameLine}
use Rattle.script_run.specs.declared.fault.ScriptFault.{ScriptFault}
use Rattle.script_run.specs.declared.fault.ScriptFault.TheVariants.{Line, TooLong, Failed, Memory}
use Rattle.script_run.specs.declared.game.play_count.PlayCount.{PlayCount}
use Rattle.script_run.specs.GameScripts.{game_script}
use Rattle.script_run.specs.OneThreadRun.{whole_game, count_in}
use Rattle.script_run.specs.GameOuts.{closed_game, first_out, play_out, IsGoodScript}

-- a script that is not too long, and its first bad line with the first reason
pub record IsBadScript (script : List ℕ) (line reason : ℕ) : Type 0 where
  pub within : length script ≤ TEXT_BYTES
  pub bad : game_script script ≡ Err (line, reason)

-- the text of a game by a script, with some sheet of the game, whose numbers a log can show
pub record IsPlayOut (game : GameFile) (script text : List ℕ) : Type 0 where
  pub lines : List GameLine
  pub good : IsGoodScript script lines
  pub sheet : List Scored
  pub scores : IsSheetOf game (closed_game game lines) sheet
  pub due : text ≡ play_out game lines sheet
  pub shown : IsShowable game Play (closed_game game lines)

-- the text of a game by a script, without its sheet
pub record IsFirstOut (game : GameFile) (script text : List ℕ) : Type 0 where
  pub lines : List GameLine
  pub good : IsGoodScript script lines
  pub due : text ≡ first_out game lines

-- the count of entries and trades in a game by a script
pub record IsCount (game : GameFile) (script : List ℕ) (count : PlayCount) : Type 0 where
  pub lines : List GameLine
  pub good : IsGoodScript script lines
  pub is : count ≡ count_in (whole_game game lines)

-- What was answered and written of a game: its whole text; or nothing, since a line is bad, or the script too long; or, where a
-- write failed, the first bytes of the text, but not all. If memory was refused, nothing was written, or all but the sheet.
abbrev pub PlaysScript : GameFile → List ℕ → SinkState → SinkState → Result PlayCount ScriptFault → Type 0
PlaysScript game script sink sink' (Ok count) = (text : List ℕ) × IsPlayOut game script text × IsCount game script count × TookWhole sink sink' text
PlaysScript game script sink sink' (Err (Line line reason)) = IsBadScript script line reason × (sink' ≡ sink)
PlaysScript game script sink sink' (Err TooLong) = (TEXT_BYTES < length script) × (sink' ≡ sink)
PlaysScript game script sink sink' (Err Failed) = (text : List ℕ) × (IsFirstOut game script text ⊎ IsPlayOut game script text) × TookPart sink sink' text
PlaysScript game script sink sink' (Err Memory) = (sink' ≡ sink) ⊎ ((text : List ℕ) × IsFirstOut game script text × TookWhole sink sink' text)
