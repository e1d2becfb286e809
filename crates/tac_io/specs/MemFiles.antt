-- Files in memory, as their contracts see them.
use Rattle.std.specs.Prelude.{ℕ, List, Bool, map, min, max, length, string_bytes, is_some, Option}
use Rattle.tac_io.specs.Calls.{Calls}
use Rattle.tac_io.specs.FileList.{content_of, selected_left}
use Rattle.tac_io.specs.declared.memory.files.MemFiles.{MemFiles}

-- the bytes of the file with each name
abbrev pub files_content : MemFiles → List ℕ → Option (List ℕ)
files_content s = content_of s.files.items

-- the names that were selected, in order
abbrev pub files_names : MemFiles → List (List ℕ)
files_names s = map string_bytes s.names.items

-- whether a file is selected
abbrev pub files_selected : MemFiles → Bool
files_selected s = is_some s.selected

-- what is left of the selected file
abbrev pub files_left : MemFiles → List ℕ
files_left s = selected_left s.files.items s.selected s.at

-- the most bytes that a read gives
abbrev pub files_most : MemFiles → ℕ
files_most s = s.most_at_once

-- the calls of `select` and `read`, and the count of faults
abbrev pub files_calls : MemFiles → Calls
files_calls s = s.faults

-- how many bytes the next read gives to a buffer of this length
abbrev pub files_share : MemFiles → ℕ → ℕ
files_share s room = min room (min (max 1 (files_most s)) (length (files_left s)))
