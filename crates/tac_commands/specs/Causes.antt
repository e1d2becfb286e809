-- The cause of each code. A failed write takes precedence over every other cause, so code 4 may replace any other code;
-- if memory does not suffice for the command, the code is 7.
use Rattle.std.specs.Prelude.{◌≡◌, ℕ, ◌-◌, ◌^◌, ◌<◌, ◌⊎◌, ⊤, List, Option, Some, None, Ok, Err, IfSome}
use Rattle.tac_commands.specs.Prelude.{Rose, FilesState, SinkState, LinksState, TickerState, GameFault, GameLine as ScriptLine}
use Rattle.tac_commands.specs.declared.file_kinds.FileKind.TheVariants.{GameScript}
use Rattle.tac_commands.specs.Allowed.{steps_of}
use Rattle.tac_commands.specs.Commands.{Command}
use Rattle.tac_commands.specs.FileKinds.{Value, read_as, refused_code}
use Rattle.tac_commands.specs.Files.{Content}
use Rattle.tac_commands.specs.Outsides.{Outside}
use Rattle.tac_commands.specs.Steps.{NamedFile, Steps, Reads, Judges, Hears, EndsWith, file}

-- no call failed: the count is as before, and below its last value
pub record IsQuiet (before now : ℕ) : Type 0 where
  pub same : now ≡ before
  pub below : before < 2 ^ 64 - 1

-- the code is 1 exactly if the words are not a command
pub record UsageExactly (command : Option Command) (code : ℕ) : Type 0 where
  pub only : code ≡ 1 → command ≡ None
  pub always : command ≡ None → (code ≡ 1) ⊎ (code ≡ 4)

-- the code is 3 exactly if the count of faults of the files rose
pub record ReadFaultExactly (files files' : FilesState) (code : ℕ) : Type 0 where
  pub only : code ≡ 3 → Rose files.faults files'.faults
  pub always : files.faults < files'.faults → (code ≡ 3) ⊎ (code ≡ 4)

-- the code is 4 exactly if the count of faults of the sink rose
pub record WriteFaultExactly (sink sink' : SinkState) (code : ℕ) : Type 0 where
  pub only : code ≡ 4 → Rose sink.faults sink'.faults
  pub always : sink.faults < sink'.faults → code ≡ 4

-- the bytes of the file of this name, if they are known
abbrev pub known_file : Content → List ℕ → Option (List ℕ)
known_file None name = None
known_file (Some files) name = files name

-- the file is there and good, and holds this value
pub record Holds (content : Content) (file : NamedFile) (value : Value file.kind) : Type 0 where
  pub bytes : List ℕ
  pub known : known_file content file.name ≡ Some bytes
  pub good : read_as file.kind bytes ≡ Ok value

-- the file is there and refused: it is too long, or has a bad line
pub record HasBad (content : Content) (file : NamedFile) : Type 0 where
  pub bytes : List ℕ
  pub known : known_file content file.name ≡ Some bytes
  pub fault : GameFault
  pub bad : read_as file.kind bytes ≡ Err fault

-- a file that is read is refused with this code: the files before it are good, and the logs judged before it are right
abbrev pub HasRefused : Content → ℕ → Steps → Type 0
HasRefused content code (Reads file next) =
    ((refused_code file.kind ≡ code) × HasBad content file)
    ⊎ ((value : Value file.kind) × Holds content file value × HasRefused content code (next value))
HasRefused content code (Judges IsRight IsDue next) = IsRight × HasRefused content code next
HasRefused content code (Hears name replies allows) = (code ≡ 8) × HasBad content (file GameScript name)
HasRefused content code (EndsWith allows) = ⊥

-- all files that are read are there and good; after a log that is not right, no file is read
abbrev pub AreGood : Content → Steps → Type 0
AreGood content (Reads file next) = (value : Value file.kind) × Holds content file value × AreGood content (next value)
AreGood content (Judges IsRight IsDue next) = IsRight → AreGood content next
AreGood content (Hears name replies allows) = (lines : List ScriptLine) × Holds content (file GameScript name) lines
AreGood content (EndsWith allows) = ⊤

-- a log that is judged is not right, by its game or by a link: the files read before it are good, and the logs judged before it are right
abbrev pub HasUnsound : Content → Steps → Type 0
HasUnsound content (Reads file next) = (value : Value file.kind) × Holds content file value × HasUnsound content (next value)
HasUnsound content (Judges IsRight IsDue next) = (IsRight → ⊥) ⊎ (IsRight × HasUnsound content next)
HasUnsound content (Hears name replies allows) = ⊥
HasUnsound content (EndsWith allows) = ⊥

-- a game file of the command is refused
abbrev pub HasRefusedGame : Content → Option Command → Type 0
HasRefusedGame content None = ⊥
HasRefusedGame content (Some command) = HasRefused content 2 (steps_of command)

-- a script, an account, a log or a file of a link is refused; the files that it reads before that one are not
abbrev pub HasRefusedText : Content → Option Command → Type 0
HasRefusedText content None = ⊥
HasRefusedText content (Some command) = HasRefused content 8 (steps_of command)

-- the code is 2 exactly if a game file is read and refused
pub record GameRefusedExactly (command : Option Command) (files files' : FilesState) (code : ℕ) : Type 0 where
  pub only : code ≡ 2 → IfSome files.content (λ _. HasRefusedGame files.content command)
  pub always : HasRefusedGame files.content command → IsQuiet files.faults files'.faults → (code ≡ 2) ⊎ (code ≡ 4) ⊎ (code ≡ 7)

-- the code is 8 exactly if a script, an account, a log or a file of a link is read and refused
pub record TextRefusedExactly (command : Option Command) (files files' : FilesState) (code : ℕ) : Type 0 where
  pub only : code ≡ 8 → IfSome files.content (λ _. HasRefusedText files.content command)
  pub always : HasRefusedText files.content command → IsQuiet files.faults files'.faults → (code ≡ 8) ⊎ (code ≡ 4) ⊎ (code ≡ 7)

-- the words are a command, and the files that it reads, if any, are there and good
abbrev pub HasGoodFiles : Content → Option Command → Type 0
HasGoodFiles content None = ⊥
HasGoodFiles content (Some command) = AreGood content (steps_of command)

-- a log that the command judges is not right
abbrev pub HasUnsoundLog : Content → Option Command → Type 0
HasUnsoundLog content None = ⊥
HasUnsoundLog content (Some command) = HasUnsound content (steps_of command)

-- the code is 9 exactly if the files up to a log, or to those of a link, were read and accepted, memory sufficed and the log is not right
pub record UnsoundExactly (command : Option Command) (files files' : FilesState) (code : ℕ) : Type 0 where
  pub only : code ≡ 9 → IfSome files.content (λ _. HasUnsoundLog files.content command)
  pub always : HasUnsoundLog files.content command → IsQuiet files.faults files'.faults → (code ≡ 9) ⊎ (code ≡ 4) ⊎ (code ≡ 7)

-- the code is 0, 7 or 9, and it is 9 exactly if a log that the command judges is not right, unless a memory allocation failed
pub record IsGoodEnd (content : Content) (command : Option Command) (code : ℕ) : Type 0 where
  pub one_of : (code ≡ 0) ⊎ (code ≡ 7) ⊎ (code ≡ 9)
  pub only : code ≡ 9 → HasUnsoundLog content command
  pub always : HasUnsoundLog content command → (code ≡ 9) ⊎ (code ≡ 7)

-- no call of the outside failed
pub record IsFaultless {L : Type 0} (before after : Outside L) : Type 0 where
  pub files : IsQuiet before.files.faults after.files.faults
  pub out : IsQuiet before.out.faults after.out.faults
  pub links : IsQuiet before.links.faults after.links.faults
  pub ticker : IsQuiet before.ticker.faults after.ticker.faults

-- the same for a run, if the words are a command, its files are good and no call of the outside failed
pub record IsComplete {L : Type 0} (command : Option Command) (before after : Outside L) (code : ℕ) : Type 0 where
  pub good : HasGoodFiles before.files.content command → IsFaultless before after → IsGoodEnd before.files.content command code

-- the code is 5 exactly if the count of faults of the links rose
pub record LinkFaultExactly {L : Type 0} (links links' : LinksState L) (code : ℕ) : Type 0 where
  pub only : code ≡ 5 → Rose links.faults links'.faults
  pub always : links.faults < links'.faults → (code ≡ 5) ⊎ (code ≡ 4)

-- the code is 6 exactly if the count of faults of the ticker rose and no other code applies: the game was played, and memory sufficed for
-- its scores
pub record ClockFaultExactly (ticker ticker' : TickerState) (code : ℕ) : Type 0 where
  pub only : code ≡ 6 → Rose ticker.faults ticker'.faults
  pub always : ticker.faults < ticker'.faults → (code ≡ 6) ⊎ (code ≡ 4) ⊎ (code ≡ 7)
