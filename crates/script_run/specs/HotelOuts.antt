-- What running a hotel script does to a sink.
use Rattle.std.specs.Prelude.{◌≡◌, ℕ, ◌<◌, ◌≤◌, ⊤, List, [], length, Result, Ok, Err}
use Rattle.script_run.specs.Prelude.{SinkState, TEXT_BYTES, TookWhole, TookPart}
use Rattle.script_run.specs.declared.hotel.lines.HotelLine.{HotelLine}
use Rattle.script_run.specs.declared.fault.ScriptFault.{ScriptFault}
use Rattle.script_run.specs.declared.fault.ScriptFault.TheVariants.{Line, TooLong, Failed, Memory}
use Rattle.script_run.specs.declared.hotel.run.HotelRun.{HotelRun}
use Rattle.script_run.specs.HotelScripts.{script_of, hotel_out}
use Rattle.script_run.specs.HotelRuns.{HasRunHotel}

-- the text is that of a script with good lines
pub record IsHotelOut (script text : List ℕ) : Type 0 where
  pub within : length script ≤ TEXT_BYTES
  pub lines : List HotelLine
  pub good : script_of script ≡ Ok lines
  pub due : text ≡ hotel_out lines

-- the first bad line of a script, with its first reason
pub record IsBad (script : List ℕ) (line reason : ℕ) : Type 0 where
  pub within : length script ≤ TEXT_BYTES
  pub bad : script_of script ≡ Err (line, reason)

-- no line was run yet, or memory was refused at the start
abbrev pub BeginsHotel : Result HotelRun ScriptFault → Type 0
BeginsHotel (Ok run) = HasRunHotel [] run
BeginsHotel (Err (Line line reason)) = ⊥
BeginsHotel (Err TooLong) = ⊥
BeginsHotel (Err Failed) = ⊥
BeginsHotel (Err Memory) = ⊤

-- the lines of a script were run, or the first bad one is reported
abbrev pub RunsLines : List ℕ → Result HotelRun ScriptFault → Type 0
RunsLines script (Ok run) = (lines : List HotelLine) × (script_of script ≡ Ok lines) × HasRunHotel lines run
RunsLines script (Err (Line line reason)) = script_of script ≡ Err (line, reason)
RunsLines script (Err TooLong) = ⊥
RunsLines script (Err Failed) = ⊥
RunsLines script (Err Memory) = ⊤

-- what was answered and written for a script: its whole text, or the first bytes of it if a write failed, or nothing
abbrev pub RunsScript : List ℕ → SinkState → SinkState → Result (Unit {0}) ScriptFault → Type 0
RunsScript script sink sink' (Ok done) = (text : List ℕ) × IsHotelOut script text × TookWhole sink sink' text
RunsScript script sink sink' (Err (Line line reason)) = IsBad script line reason × (sink' ≡ sink)
RunsScript script sink sink' (Err TooLong) = (TEXT_BYTES < length script) × (sink' ≡ sink)
RunsScript script sink sink' (Err Failed) = (text : List ℕ) × IsHotelOut script text × TookPart sink sink' text
RunsScript script sink sink' (Err Memory) = sink' ≡ sink
