-- Which files a command selects, by its code.
use Rattle.std.specs.Prelude.{◌≡◌, ◌≢◌, ℕ, ◌⊎◌, [], ◌∷◌, Option, Some, None}
use Rattle.tac_commands.specs.Prelude.{FilesState, known_then}
use Rattle.tac_commands.specs.declared.file_kinds.FileKind.{FileKind}
use Rattle.tac_commands.specs.Allowed.{steps_of}
use Rattle.tac_commands.specs.Commands.{Command}
use Rattle.tac_commands.specs.FileKinds.{Value, refused_code}
use Rattle.tac_commands.specs.Files.{IsFileRead}
use Rattle.tac_commands.specs.Runs.{with_name}
use Rattle.tac_commands.specs.Steps.{Steps, Reads, Judges, Hears, EndsWith}

-- the codes with which a run may end at a file of a kind
abbrev pub EndsAt : FileKind → ℕ → Type 0
EndsAt kind code = (code ≡ 3) ⊎ (code ≡ 4) ⊎ (code ≡ 7) ⊎ (code ≡ refused_code kind)

-- the codes with which a run may end at the judging of a log; `Causes` says what the log must be for 9
abbrev pub EndsAtAudit : ℕ → Type 0
EndsAtAudit code = (code ≡ 4) ⊎ (code ≡ 7) ⊎ (code ≡ 9)

-- The files are selected in order, once each, up to the one, or to the judgement, at which the run ended. A later file is selected only if those
-- before it are there, within their limits, and good, and the logs that are judged before it are right. At a script that is played line
-- by line, and at the last step, the code is not that of a file or a judgement before.
abbrev pub SelectsFiles : Steps → FilesState → FilesState → ℕ → Type 0
SelectsFiles (Reads file next) files files' code =
    ((files'.names ≡ known_then files.names (file.name ∷ [])) × EndsAt file.kind code)
    ⊎ ((value : Value file.kind) × IsFileRead files.content file.kind file.name value × SelectsFiles (next value) (with_name files file.name) files' code)
SelectsFiles (Judges IsRight IsDue next) files files' code =
    ((files'.names ≡ files.names) × EndsAtAudit code)
    ⊎ (IsRight × SelectsFiles next files files' code)
SelectsFiles (Hears name replies allows) files files' code = (files'.names ≡ known_then files.names (name ∷ [])) × (code ≢ 2) × (code ≢ 9)
SelectsFiles (EndsWith allows) files files' code = (files'.names ≡ files.names) × (code ≢ 2) × (code ≢ 3) × (code ≢ 8) × (code ≢ 9)

-- a command selects the files of its steps in this way; without a command no file is selected
abbrev pub Selects : Option Command → FilesState → FilesState → ℕ → Type 0
Selects None files files' code = files'.names ≡ files.names
Selects (Some command) files files' code = SelectsFiles (steps_of command) files files' code
