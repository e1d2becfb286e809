-- Reading the script of a command, line by line.
use Rattle.std.specs.Prelude.{◌≡◌, ℕ, ◌⊎◌, List, [], ◌++◌, Option, Some, IfSome}
use Rattle.tac_commands.specs.Prelude.{Rose, FilesState, IsAtEnd, GameLine as ScriptLine, HasReadCause, StopsThere}
use Rattle.script_run.specs.HeardScripts.{heard_lines, Reading, Standing, Whole, BadAt, Overlong, BrokenOff, Open, script_standing}
use Rattle.tac_commands.specs.declared.refusals.Refusal.TheVariants.{ReadFault, Memory, TextLine, TextTooLong}
use Rattle.tac_commands.specs.Files.{Content}
use Rattle.tac_commands.specs.Outcomes.{Outcome, Stopped, Unwritten, Unread, Refused}

-- the file of this name gave these first bytes, and has this left, if the files are known
abbrev pub IsGiven : Content → List ℕ → List ℕ → Option (List ℕ) → Type 0
IsGiven content name given left = IfSome content (λ files. (rest : List ℕ) × (files name ≡ Some (given ++ rest)) × (left ≡ Some rest))

-- The script could not be selected, and the file that was read before it is still at its end; or an allocation failed, and the whole script is left.
abbrev pub IsUnheard : FilesState → FilesState → List ℕ → Outcome → Type 0
IsUnheard files files' name outcome =
    ((outcome ≡ Refused ReadFault) × IsAtEnd files'.left × Rose files.faults files'.faults)
    ⊎ ((outcome ≡ Refused Memory) × IsGiven files.content name [] files'.left × (files'.faults ≡ files.faults))

-- The outcome of a script in this standing, after these good lines: the replies to them are written, and then what is due; or a write of them
-- failed, which ends the reading of a script. So before a read that failed they were written whole.
abbrev pub IsScriptOutcome : (List ScriptLine → List ℕ) → (List ScriptLine → Outcome → Type 0) → List ScriptLine → Standing → Outcome → Type 0
IsScriptOutcome replies allows lines Whole outcome = allows lines outcome
IsScriptOutcome replies allows lines (BadAt line reason) outcome = outcome ≡ Stopped (replies lines) (TextLine line reason)
IsScriptOutcome replies allows lines Overlong outcome = outcome ≡ Stopped (replies lines) TextTooLong
IsScriptOutcome replies allows lines BrokenOff outcome = outcome ≡ Unread (replies lines)
IsScriptOutcome replies allows lines Open outcome = outcome ≡ Unwritten (replies lines)

-- the script in the file of this name was read, as far as it gave its bytes, and this is the outcome
abbrev pub IsScriptHeard : (List ScriptLine → List ℕ) → (List ScriptLine → Outcome → Type 0) → FilesState → FilesState → List ℕ → Outcome → Type 0
IsScriptHeard replies allows files files' name outcome =
    (given : List ℕ) × (reading : Reading) × IsGiven files.content name given files'.left × StopsThere reading files'.left
    × HasReadCause (script_standing given reading) files.faults files'.faults × IsScriptOutcome replies allows (heard_lines given) (script_standing given reading) outcome
