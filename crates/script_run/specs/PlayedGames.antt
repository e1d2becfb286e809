-- A game that was played to its end, and the effect on a sink of writing it and its sheet.
use Rattle.std.specs.Prelude.{◌≡◌, ℕ, ◌<◌, ◌⊎◌, ⊤, List, [], ◌++◌, length, Result, Ok, Err}
use Rattle.script_run.specs.Prelude.{SinkState, GameFile, TEXT_BYTES, Scored, play_part, sheet_part, IsSheetOf, IsShowable, TookWhole, TookPart, Play}
use Rattle.script_run.specs.declared.game.lines.GameLine.{GameLine}
use Rattle.script_run.specs.declared.fault.ScriptFault.{ScriptFault}
use Rattle.script_run.specs.declared.fault.ScriptFault.TheVariants.{Line, TooLong, Failed, Memory}
use Rattle.script_run.specs.declared.game.playing.FinishedGame.{FinishedGame}
use Rattle.script_run.specs.OneThreadRun.{replies}
use Rattle.script_run.specs.GameOuts.{closed_game, IsGoodScript}
use Rattle.script_run.specs.PlayOuts.{IsBadScript}

-- the game by these lines was played to its end, a first part of its replies was written, and a log can show the game
pub record IsPlayedToEnd (game : GameFile) (lines : List GameLine) (written : List ℕ) (played : FinishedGame) : Type 0 where
  pub replies : written ++ played.replies.items ≡ replies game lines
  pub closed : played.closed ≡ closed_game game lines
  pub shown : IsShowable game Play played.closed

-- the same if nothing was written yet
abbrev pub HasPlayed : GameFile → List GameLine → FinishedGame → Type 0
HasPlayed game lines played = IsPlayedToEnd game lines [] played

-- the game of a script was played to its end, or the script is refused
abbrev pub PlaysToEnd : GameFile → List ℕ → Result FinishedGame ScriptFault → Type 0
PlaysToEnd game script (Ok played) = (lines : List GameLine) × IsGoodScript script lines × HasPlayed game lines played
PlaysToEnd game script (Err (Line line reason)) = IsBadScript script line reason
PlaysToEnd game script (Err TooLong) = TEXT_BYTES < length script
PlaysToEnd game script (Err Failed) = ⊥
PlaysToEnd game script (Err Memory) = ⊤

-- what is written before the sheet
abbrev pub first_text : FinishedGame → List ℕ
first_text played = played.replies.items ++ play_part Play played.closed

-- the whole text of the game was written with some sheet of it, or not all of it, or all but the sheet if memory was refused for it
abbrev pub WritesPlayed : GameFile → FinishedGame → SinkState → SinkState → Result (Unit {0}) ScriptFault → Type 0
WritesPlayed game played sink sink' (Ok done) = (sheet : List Scored) × IsSheetOf game played.closed sheet × TookWhole sink sink' (first_text played ++ sheet_part sheet)
WritesPlayed game played sink sink' (Err (Line line reason)) = ⊥
WritesPlayed game played sink sink' (Err TooLong) = ⊥
WritesPlayed game played sink sink' (Err Failed) =
    TookPart sink sink' (first_text played)
    ⊎ ((sheet : List Scored) × IsSheetOf game played.closed sheet × TookPart sink sink' (first_text played ++ sheet_part sheet))
WritesPlayed game played sink sink' (Err Memory) = TookWhole sink sink' (first_text played)
