-- A game that is played by the lines of a script.
use Rattle.std.specs.Prelude.{◌≡◌, ℕ, ⊤, List, [], ◌∷◌, ◌++◌, Result, Ok, Err}
use Rattle.text_forms.specs.Lines.{NumberedLine}
use Rattle.game_text.specs.Games.{GameFile}
use Rattle.script_run.specs.declared.game.lines.GameLine.{GameLine}
use Rattle.script_run.specs.declared.game.run.GameRun.{GameRun}
use Rattle.script_run.specs.declared.fault.ScriptFault.{ScriptFault}
use Rattle.script_run.specs.declared.fault.ScriptFault.TheVariants.{Line, TooLong, Failed, Memory}
use Rattle.script_run.specs.declared.fault.ScriptReason.{ScriptReason}
use Rattle.script_run.specs.ScriptLines.{script_reason_number}
use Rattle.script_run.specs.GameScripts.{judge_game_line, game_script}
use Rattle.script_run.specs.GameCounts.{AreGameCounts}
use Rattle.script_run.specs.OneThreadRun.{played, replies}

-- the run has come to the end of these lines, the last line first, and the first part of their text was written and dropped
pub record HasRunGame (game : GameFile) (lines : List GameLine) (written : List ℕ) (run : GameRun) : Type 0 where
  pub is : run.table.game ≡ game
  pub state : run.table.state ≡ played game lines
  pub counted : AreGameCounts lines run.counts
  pub text : written ++ run.text.items ≡ replies game lines

-- a line after others was played, or is bad, and nothing was written of it, or memory was refused for its text
abbrev pub PlaysGameLine : GameFile → List GameLine → List ℕ → NumberedLine → GameRun → Result (Unit {0}) ScriptFault → Type 0
PlaysGameLine game lines written line run (Ok done) = (asked : GameLine) × (judge_game_line lines line.bytes ≡ Ok asked) × HasRunGame game (asked ∷ lines) written run
PlaysGameLine game lines written line run (Err (Line number reason)) =
    (why : ScriptReason) × (number ≡ line.number) × (reason ≡ script_reason_number why) × (judge_game_line lines line.bytes ≡ Err why) × (written ++ run.text.items ≡ replies game lines)
PlaysGameLine game lines written line run (Err TooLong) = ⊥
PlaysGameLine game lines written line run (Err Failed) = ⊥
PlaysGameLine game lines written line run (Err Memory) = ⊤

-- whatever lines had been played before, this one came next: it was played after them, or was refused for the reason told
abbrev pub PlaysNextLine : GameRun → NumberedLine → GameRun → Result (Unit {0}) ScriptFault → Type 0
PlaysNextLine before line after result =
    (game : GameFile) (lines : List GameLine) (written : List ℕ) → HasRunGame game lines written before → PlaysGameLine game lines written line after result

-- memory was not refused
abbrev pub IsGranted : Result (Unit {0}) ScriptFault → Type 0
IsGranted (Err Memory) = ⊥
IsGranted result = ⊤

-- the lines of a script were played, or the first bad one is reported
abbrev pub PlaysLines : GameFile → List ℕ → Result GameRun ScriptFault → Type 0
PlaysLines game script (Ok run) = (lines : List GameLine) × (game_script script ≡ Ok lines) × HasRunGame game lines [] run
PlaysLines game script (Err (Line line reason)) = game_script script ≡ Err (line, reason)
PlaysLines game script (Err TooLong) = ⊥
PlaysLines game script (Err Failed) = ⊥
PlaysLines game script (Err Memory) = ⊤
