-- What playing a game script without writing answers.
use Rattle.std.specs.Prelude.{ℕ, ◌<◌, ⊤, List, length, Result, Ok, Err}
use Rattle.script_run.specs.Prelude.{GameFile, TEXT_BYTES, Scored}
use Rattle.script_run.specs.declared.fault.QuietFault.{QuietFault}
use Rattle.script_run.specs.declared.fault.QuietFault.TheVariants.{Line, TooLong, Memory}
use Rattle.script_run.specs.declared.fault.ScriptFault.{ScriptFault}
use Rattle.script_run.specs.declared.fault.ScriptFault.TheVariants as faults
use Rattle.script_run.specs.declared.game.play_count.PlayCount.{PlayCount}
use Rattle.script_run.specs.PlayOuts.{IsBadScript}
use Rattle.script_run.specs.QuietGames.{IsSummary}

-- a game was played, or its script is bad or too long, or memory was refused
abbrev pub PlaysQuietly : GameFile → List ℕ → Result (PlayCount × List Scored) QuietFault → Type 0
PlaysQuietly game script (Ok played) = IsSummary game script played.0 played.1
PlaysQuietly game script (Err (Line line reason)) = IsBadScript script line reason
PlaysQuietly game script (Err TooLong) = TEXT_BYTES < length script
PlaysQuietly game script (Err Memory) = ⊤

-- a fault that comes when nothing is written, and what it is reported as
abbrev pub IsQuietFault : ScriptFault → Type 0
IsQuietFault (faults.Line line reason) = ⊤
IsQuietFault faults.TooLong = ⊤
IsQuietFault faults.Failed = ⊥
IsQuietFault faults.Memory = ⊤

abbrev pub quiet_of : ScriptFault → QuietFault
quiet_of (faults.Line line reason) = Line line reason
quiet_of faults.TooLong = TooLong
quiet_of faults.Failed = Memory
quiet_of faults.Memory = Memory
