-- What commands write and how they end, before and after they are finished.
use Rattle.std.specs.Prelude.{◌≡◌, ℕ, ◌⊎◌, List, Result, Ok, Err}
use Rattle.tac_commands.specs.Prelude.{FilesState, SinkState, TookWhole, TookPart, ScriptFault, StepFault}
use Rattle.script_run.specs.declared.fault.ScriptFault.TheVariants as faults
use Rattle.script_run.specs.declared.fault.StepFault.TheVariants as steps
use Rattle.tac_commands.specs.declared.refusals.Refusal.{Refusal}
use Rattle.tac_commands.specs.declared.refusals.Refusal.TheVariants.{Memory, ReadFault, TextLine, TextTooLong}
use Rattle.tac_commands.specs.declared.ends.End.{End}
use Rattle.tac_commands.specs.declared.ends.End.TheVariants as ends
use Rattle.tac_commands.specs.Allowed.{batch_steps}
use Rattle.tac_commands.specs.Commands.{BatchCommand}
use Rattle.tac_commands.specs.Outcomes.{Outcome, Done, Unsound, Stopped, Unwritten, Unread, Refused}
use Rattle.tac_commands.specs.Runs.{Runs}
use Rattle.tac_commands.specs.Steps.{Steps}
use Rattle.tac_commands.specs.Reporting.{Reports}

-- a command that allows these outcomes ended so, and left the sink so: its text was written, or one that reports an unsound log, or the
-- first bytes of either, or nothing
abbrev pub Ends : (Outcome → Type 0) → SinkState → SinkState → End → Type 0
Ends allows sink sink' ends.Done = (text : List ℕ) × allows (Done text) × TookWhole sink sink' text
Ends allows sink sink' ends.Unsound = (text : List ℕ) × allows (Unsound text) × TookWhole sink sink' text
Ends allows sink sink' ends.WriteFault = (text : List ℕ) × (allows (Done text) ⊎ allows (Unsound text) ⊎ allows (Unwritten text)) × TookPart sink sink' text
Ends allows sink sink' (ends.Refused refusal) = allows (Refused refusal) × (sink' ≡ sink)

-- a first part of a text was written, and this is to be written in place of the rest; or only the first bytes of that part were
abbrev pub Stops : List ℕ → Refusal → SinkState → SinkState → End → Type 0
Stops text refusal sink sink' ends.WriteFault = TookPart sink sink' text
Stops text refusal sink sink' (ends.Refused told) = (told ≡ refusal) × TookWhole sink sink' text
Stops text refusal sink sink' end = ⊥

-- A command that allows these outcomes ended so, and left the sink so. It may have stopped after a first part of its text, or after the replies to the
-- lines of a script that came before a failed read: these were written whole.
abbrev pub EndsOrStops : (Outcome → Type 0) → SinkState → SinkState → End → Type 0
EndsOrStops allows sink sink' end =
    Ends allows sink sink' end
    ⊎ ((text : List ℕ) × (refusal : Refusal) × allows (Stopped text refusal) × Stops text refusal sink sink' end)
    ⊎ ((replies : List ℕ) × allows (Unread replies) × (end ≡ ends.Refused ReadFault) × TookWhole sink sink' replies)

-- a command with these steps over its files ended so, and left the files and the sink so
abbrev pub EndsSteps : Steps → FilesState → FilesState → SinkState → SinkState → End → Type 0
EndsSteps steps files files' sink sink' end = EndsOrStops (Runs steps files files') sink sink' end

-- a command that needs no links ended so
abbrev pub EndsBatch : BatchCommand → FilesState → FilesState → SinkState → SinkState → End → Type 0
EndsBatch command files files' sink sink' end = EndsSteps (batch_steps command) files files' sink sink' end

-- steps that select no more files ended so, whatever the files are
abbrev pub EndsUnasked : Steps → SinkState → SinkState → End → Type 0
EndsUnasked steps sink sink' end = (files : FilesState) → EndsSteps steps files files sink sink' end

-- how a command ends that runs a script
abbrev pub script_end : {A : Type 0} → Result A ScriptFault → End
script_end (Ok run) = ends.Done
script_end (Err (faults.Line line reason)) = ends.Refused (TextLine line reason)
script_end (Err faults.TooLong) = ends.Refused TextTooLong
script_end (Err faults.Failed) = ends.WriteFault
script_end (Err faults.Memory) = ends.Refused Memory

-- how a command ends that played a game line by line
abbrev pub step_end : {A : Type 0} → Result A StepFault → End
step_end (Ok run) = ends.Done
step_end (Err (steps.Line line reason)) = ends.Refused (TextLine line reason)
step_end (Err steps.TooLong) = ends.Refused TextTooLong
step_end (Err steps.Unread) = ends.Refused ReadFault
step_end (Err steps.Unwritten) = ends.WriteFault
step_end (Err steps.Memory) = ends.Refused Memory

-- the effect on the sink of writing a command's whole text
abbrev pub WritesWhole : List ℕ → SinkState → SinkState → End → Type 0
WritesWhole text sink sink' ends.Done = TookWhole sink sink' text
WritesWhole text sink sink' ends.Unsound = ⊥
WritesWhole text sink sink' ends.WriteFault = TookPart sink sink' text
WritesWhole text sink sink' (ends.Refused Memory) = sink' ≡ sink
WritesWhole text sink sink' (ends.Refused refusal) = ⊥

-- what is left to do for a command that ended so: a refusal is written, and otherwise nothing
abbrev pub Finishes : End → SinkState → SinkState → ℕ → Type 0
Finishes ends.Done sink sink' code = (code ≡ 0) × (sink' ≡ sink)
Finishes ends.Unsound sink sink' code = (code ≡ 9) × (sink' ≡ sink)
Finishes ends.WriteFault sink sink' code = (code ≡ 4) × (sink' ≡ sink)
Finishes (ends.Refused refusal) sink sink' code = Reports (Refused refusal) sink sink' code
