-- Reading a file of a command. The read has a fault exactly if the count of faults of the files rose. An allocation may fail at any time.
use Rattle.std.specs.Prelude.{◌≡◌, ℕ, ◌+◌, ◌<◌, ◌≤◌, ◌⊎◌, List, Option, Ok, Err, IfSome, length}
use Rattle.tac_commands.specs.Prelude.{FILE_NAMES, NAME_BYTES, Rose, IsFile, FilesState, GameFault}
use Rattle.tac_commands.specs.declared.file_kinds.FileKind.{FileKind}
use Rattle.tac_commands.specs.declared.refusals.Refusal.{Refusal}
use Rattle.tac_commands.specs.declared.refusals.Refusal.TheVariants.{ReadFault, Memory}
use Rattle.tac_commands.specs.FileKinds.{Value, read_as, refusal_of}

-- if the names are known, two more files may be selected, and their names are short enough
abbrev pub MaySelectTwo : FilesState → List ℕ → List ℕ → Type 0
MaySelectTwo files first second = IfSome files.names (λ names. (length names + 1 < FILE_NAMES) × (length first ≤ NAME_BYTES) × (length second ≤ NAME_BYTES))

-- the bytes of each name, if they are known
abbrev pub Content : Type 0
Content = Option (List ℕ → Option (List ℕ))

-- the file of this name is of the kind, and holds the value
abbrev pub IsFileRead : Content → (kind : FileKind) → List ℕ → Value kind → Type 0
IsFileRead content kind name value = (bytes : List ℕ) × IsFile content name bytes × (read_as kind bytes ≡ Ok value)

-- the file of this name has the fault
abbrev pub HasFault : Content → FileKind → List ℕ → GameFault → Type 0
HasFault content kind name fault = (bytes : List ℕ) × IsFile content name bytes × (read_as kind bytes ≡ Err fault)

-- what is written in place of that file's value: a read failed, a memory allocation failed, or the file is refused
abbrev pub IsNotRead : FilesState → FilesState → FileKind → List ℕ → Refusal → Type 0
IsNotRead files files' kind name refusal =
    ((refusal ≡ ReadFault) × Rose files.faults files'.faults)
    ⊎ ((refusal ≡ Memory) × (files'.faults ≡ files.faults))
    ⊎ ((fault : GameFault) × (refusal ≡ refusal_of kind fault) × HasFault files.content kind name fault × (files'.faults ≡ files.faults))
