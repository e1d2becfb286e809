-- How a command runs over its files: each is selected and read in order, up to the first that is not read, or to a log that is not right.
-- Then the outcome is the refusal of that file, or a text that reports the log, and no later file was selected. A run that reaches
-- its last step ends with an outcome that the values of the files allow.
use Rattle.std.specs.Prelude.{◌≡◌, ℕ, ◌⊎◌, ⊤, List, [], ◌∷◌}
use Rattle.tac_commands.specs.Prelude.{FilesState, known_then}
use Rattle.tac_commands.specs.declared.refusals.Refusal.{Refusal}
use Rattle.tac_commands.specs.declared.refusals.Refusal.TheVariants.{Memory}
use Rattle.tac_commands.specs.FileKinds.{Value}
use Rattle.tac_commands.specs.Files.{IsFileRead, IsNotRead}
use Rattle.tac_commands.specs.HeardFiles.{IsUnheard, IsScriptHeard}
use Rattle.tac_commands.specs.Outcomes.{Outcome, Unsound, Refused}
use Rattle.tac_commands.specs.Steps.{Steps, Reads, Judges, Hears, EndsWith}

-- The files once one more name was selected. A run says what is left of a file only for a script that is played line by line.
abbrev pub with_name : FilesState → List ℕ → FilesState
with_name files name = record files { names = known_then files.names (name ∷ []) }

-- no more names were selected, and the count of faults is the same
abbrev pub AreUnasked : FilesState → FilesState → Type 0
AreUnasked files files' = (files'.names ≡ files.names) × (files'.faults ≡ files.faults)

-- a judgement ends a run: it does not hold, and the due text reports that; or a memory allocation failed
abbrev pub StopsAt : Type 0 → (List ℕ → Type 0) → Outcome → Type 0
StopsAt IsRight IsDue (Unsound text) = (IsRight → ⊥) × IsDue text
StopsAt IsRight IsDue (Refused Memory) = ⊤
StopsAt IsRight IsDue outcome = ⊥

abbrev pub Runs : Steps → FilesState → FilesState → Outcome → Type 0
Runs (Reads file next) files files' outcome =
    ((value : Value file.kind) × IsFileRead files.content file.kind file.name value × Runs (next value) (with_name files file.name) files' outcome)
    ⊎ ((refusal : Refusal) × (outcome ≡ Refused refusal) × IsNotRead files files' file.kind file.name refusal × (files'.names ≡ known_then files.names (file.name ∷ [])))
Runs (Judges IsRight IsDue next) files files' outcome =
    (IsRight × Runs next files files' outcome)
    ⊎ (StopsAt IsRight IsDue outcome × AreUnasked files files')
Runs (Hears name replies allows) files files' outcome =
    (IsUnheard files files' name outcome ⊎ IsScriptHeard replies allows files files' name outcome) × (files'.names ≡ known_then files.names (name ∷ []))
Runs (EndsWith allows) files files' outcome = allows outcome × AreUnasked files files'
