-- A list of files in memory, and the texts that store the selected names.
use Rattle.std.specs.Prelude.{◌≡◌, ℕ, ◌≤◌, List, [], Bool, None, Some, String, find, drop, string_bytes, string_len, slice_get, option_map, string_capacity, Option, bytes_eq}
use Rattle.std.specs.Option.{option_map_or}
use Rattle.std.specs.Global.{Global}
use Rattle.tac_base.specs.declared.limits.TheConstants.{NAME_BYTES}
use Rattle.tac_io.specs.declared.memory.files.MemFile.{MemFile}

abbrev pub is_named : List ℕ → MemFile → Bool
is_named name file = bytes_eq (string_bytes file.name) name

-- the bytes of the first file with that name
abbrev pub content_of : List MemFile → List ℕ → Option (List ℕ)
content_of files name = option_map (λ (file : MemFile). file.bytes.items) (find (is_named name) files)

-- what is left of the i-th file from a position on
abbrev pub file_left : List MemFile → ℕ → ℕ → List ℕ
file_left files i at = drop at (option_map_or (λ (file : MemFile). file.bytes.items) (slice_get files i) [])

-- what is left of the selected file, if one is selected
abbrev pub selected_left : List MemFile → Option ℕ → ℕ → List ℕ
selected_left files None at = []
selected_left files (Some i) at = file_left files i at

-- an empty text with room for a name
abbrev pub IsSpare : String Global → Type 0
IsSpare text = (string_len text ≡ 0) × (NAME_BYTES ≤ string_capacity text)
