-- What a command does with its files, step by step.
use Rattle.std.specs.Prelude.{ℕ, List}
use Rattle.script_run.specs.declared.game.lines.GameLine.{GameLine as ScriptLine}
use Rattle.tac_commands.specs.declared.file_kinds.FileKind.{FileKind}
use Rattle.tac_commands.specs.FileKinds.{Value}
use Rattle.tac_commands.specs.Outcomes.{Outcome}

-- a file that a command reads, with the word that names it
pub record NamedFile : Type 0 where
  pub kind : FileKind
  pub name : List ℕ

abbrev pub file : FileKind → List ℕ → NamedFile
file kind name = record { kind = kind; name = name }

-- A command reads a file and continues with its value; or it judges a log, by its game or by a link, continues if the log is right, and
-- otherwise reports it by a text of which this holds; or it plays a game script line by line, writes the replies to its lines, a text of
-- them, and ends after them with an outcome of which this holds; or it ends with an outcome of which this holds.
pub data Steps : Type 1 where
  Reads : (file : NamedFile) → (Value file.kind → Steps) → Steps
  Judges : (IsRight : Type 0) → (List ℕ → Type 0) → Steps → Steps
  Hears : (name : List ℕ) → (List ScriptLine → List ℕ) → (List ScriptLine → Outcome → Type 0) → Steps
  EndsWith : (Outcome → Type 0) → Steps
