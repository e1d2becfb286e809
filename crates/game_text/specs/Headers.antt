-- The first and the last line of a game file.
use Rattle.std.specs.Prelude.{ℕ, ◌==◌, not, if◌then◌else◌, List, [], ◌∷◌, ℤ, Result, Ok, Err, codes, length, slice_index_or, bytes_eq}
use Rattle.text_forms.specs.declared.lines.Reason.{Reason}
use Rattle.text_forms.specs.declared.lines.Reason.TheVariants.{Keyword, WordCount}
use Rattle.text_forms.specs.Words.{words_of}
use Rattle.text_forms.specs.Rows.{row}
use Rattle.text_forms.specs.Steps.{◌>>=◌}

-- the version in the second word; any other word counts as a wrong first word
abbrev pub version_of : List ℕ → Result ℕ Reason
version_of word =
    if bytes_eq word (codes "1") then Ok 1
    else if bytes_eq word (codes "2") then Ok 2
    else Err Keyword

-- the version in the words of the first line
abbrev pub header_of_words : List (List ℕ) → Result ℕ Reason
header_of_words [] = Err Keyword
header_of_words (first ∷ words) =
    if not (bytes_eq first (codes "tac")) then Err Keyword
    else if not (length words == 1) then Err WordCount
    else version_of (slice_index_or words 0 [])

-- the version in the first line, or the first reason that applies
unfoldable pub header_of : List ℕ → Result ℕ Reason
header_of line = header_of_words (words_of line)

-- the first line for a version, 1 or 2
abbrev pub header_text : ℕ → List ℕ
header_text version = if version == 2 then codes "tac 2" else codes "tac 1"

-- a row without numbers
abbrev pub nothing_from : List ℤ → Result (Unit {0}) Reason
nothing_from numbers = Ok tt

-- the last line
unfoldable pub read_end_line : List ℕ → Result (Unit {0}) Reason
read_end_line line = row (codes "end") [] line >>= nothing_from
