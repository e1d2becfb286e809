-- The effect of playing a game line by line, as its script is read, and what is known of the game.
use Rattle.std.specs.Prelude.{◌≡◌, ℕ, ◌⊎◌, List, Result, Ok, Err}
use Rattle.script_run.specs.Prelude.{FilesState, SinkState, then_known, GameFile, TookWhole, TookPart}
use Rattle.script_run.specs.declared.fault.StepFault.{StepFault}
use Rattle.script_run.specs.declared.fault.StepFault.TheVariants.{Line, TooLong, Unread, Unwritten, Memory}
use Rattle.script_run.specs.HeardScripts.{heard_lines, Reading, Standing, Whole, BadAt, Overlong, BrokenOff, Open, script_standing}
use Rattle.script_run.specs.HeardReads.{StopsThere, HasReadCause, IsPrompt}
use Rattle.script_run.specs.OneThreadRun.{replies}
use Rattle.script_run.specs.PlayOuts.{IsPlayOut, IsFirstOut}

-- ---- the script

-- the selected file gave these bytes, the first that it had left, and its reading stopped so
abbrev pub Gave : List ℕ → Reading → FilesState → FilesState → Type 0
Gave given reading files files' =
    (files.left ≡ then_known given files'.left) × StopsThere reading files'.left × HasReadCause (script_standing given reading) files.faults files'.faults

-- ---- the sink

-- the replies were written, and then the fault is answered; or a write of them failed
abbrev pub TellsFault : List ℕ → StepFault → SinkState → SinkState → Result (Unit {0}) StepFault → Type 0
TellsFault text fault sink sink' (Ok done) = ⊥
TellsFault text fault sink sink' (Err Unwritten) = TookPart sink sink' text
TellsFault text fault sink sink' (Err answered) = (answered ≡ fault) × TookWhole sink sink' text

-- a write of the replies failed before anything else stopped the game
abbrev pub IsUnwritten : List ℕ → SinkState → SinkState → Result (Unit {0}) StepFault → Type 0
IsUnwritten text sink sink' (Err Unwritten) = TookPart sink sink' text
IsUnwritten text sink sink' result = ⊥

-- The text that `play` writes of the script that was given; or, where a write failed, the first bytes of it, but not all; or all but the sheet, if
-- memory was refused for it.
abbrev pub TellsGame : GameFile → List ℕ → SinkState → SinkState → Result (Unit {0}) StepFault → Type 0
TellsGame game given sink sink' (Ok done) = (text : List ℕ) × IsPlayOut game given text × TookWhole sink sink' text
TellsGame game given sink sink' (Err Unwritten) = (text : List ℕ) × (IsFirstOut game given text ⊎ IsPlayOut game given text) × TookPart sink sink' text
TellsGame game given sink sink' (Err Memory) = (text : List ℕ) × IsFirstOut game given text × TookWhole sink sink' text
TellsGame game given sink sink' result = ⊥

-- What was written and answered of a script that gave these bytes and stands so. Any read may fail, and a write may fail after it; so the replies to
-- all lines that came before a read are written before it.
abbrev pub Tells : GameFile → List ℕ → Standing → SinkState → SinkState → Result (Unit {0}) StepFault → Type 0
Tells game given Whole sink sink' result = TellsGame game given sink sink' result
Tells game given (BadAt line reason) sink sink' result = TellsFault (replies game (heard_lines given)) (Line line reason) sink sink' result
Tells game given Overlong sink sink' result = TellsFault (replies game (heard_lines given)) TooLong sink sink' result
Tells game given BrokenOff sink sink' result = (result ≡ Err Unread) × TookWhole sink sink' (replies game (heard_lines given))
Tells game given Open sink sink' result = IsUnwritten (replies game (heard_lines given)) sink sink' result

-- ---- both

-- Memory was refused before anything was read or written; or the script gave some bytes, and what is due of them was written and answered, promptly.
abbrev pub StepsGame : GameFile → FilesState → FilesState → SinkState → SinkState → Result (Unit {0}) StepFault → Type 0
StepsGame game files files' sink sink' result =
    ((result ≡ Err Memory) × (files' ≡ files) × (sink' ≡ sink))
    ⊎ ((given : List ℕ) × (reading : Reading) × Gave given reading files files' × Tells game given (script_standing given reading) sink sink' result
    × IsPrompt game given sink sink')
