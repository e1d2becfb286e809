-- How the lines of a log's head are read. A log's fault names only a line, so a line of another form needs no reason.
use Rattle.std.specs.Prelude.{ℕ, ◌+◌, ◌-◌, ◌&&◌, nat_le, if◌then◌else◌, List, [], ◌∷◌, ℤ, pos, Option, Some, None, Result, Ok, Err, decimal, codes, unsigned_abs, slice_index_or, bytes_eq}
use Rattle.log_reader.specs.Prelude.{Reason, Spelling, Column, words_of, within, row, Verdict, Seated, Syntax, WrongWord, Taken, Lost, Cause, Quit, End, ReadFault, WriteFault, Budget}
use Rattle.line_protocol.specs.ReplyForms.{◌>>=◌}

-- what a line says, or that it does not have its form
abbrev pub formed : {A : Type 0} → Option A → Result A Reason
formed None = Err Spelling
formed (Some value) = Ok value

-- a line that is this text
abbrev pub is_text : List ℕ → List ℕ → Option (Unit {0})
is_text text line = if bytes_eq line text then Some tt else None

-- one digit, at most this number
abbrev pub digit_of : ℕ → List ℕ → Option ℕ
digit_of most [] = None
digit_of most (digit ∷ []) = if nat_le 48 digit && nat_le digit (48 + most) then Some (digit - 48) else None
digit_of most (digit ∷ other ∷ more) = None

-- the numbers of a line of a keyword and numbers
abbrev pub numbers_by : Result (List ℤ) Reason → Option (List ℤ)
numbers_by (Err reason) = None
numbers_by (Ok numbers) = Some numbers

abbrev pub read_numbers : List ℕ → List Column → List ℕ → Option (List ℤ)
read_numbers keyword columns line = numbers_by (row keyword columns line)

-- the number at a place among them
abbrev pub number_at : List ℤ → ℕ → ℕ
number_at numbers place = unsigned_abs (slice_index_or numbers place (pos 0))

-- ---- links

abbrev pub read_refused : List ℕ → Option Verdict
read_refused word =
    if bytes_eq word (codes "syntax") then Some Syntax
    else if bytes_eq word (codes "wrongword") then Some WrongWord
    else if bytes_eq word (codes "taken") then Some Taken
    else if bytes_eq word (codes "lost") then Some Lost
    else None

abbrev pub seated_of : List ℕ → List ℕ → Option Verdict
seated_of word agent = if bytes_eq word (codes "seated") then (digit_of 7 agent >>= λ seat. Some (Seated seat)) else None

abbrev pub read_verdict : List (List ℕ) → Option Verdict
read_verdict [] = None
read_verdict (word ∷ []) = read_refused word
read_verdict (word ∷ agent ∷ []) = seated_of word agent
read_verdict (word ∷ agent ∷ other ∷ words) = None

abbrev pub link_of_words : ℕ → List (List ℕ) → Option Verdict
link_of_words place [] = None
link_of_words place (keyword ∷ []) = None
link_of_words place (keyword ∷ number ∷ words) = if bytes_eq keyword (codes "link") && bytes_eq number (decimal place) then read_verdict words else None

-- the verdict of the line of a link at this place
unfoldable pub read_link : ℕ → List ℕ → Option Verdict
read_link place line = link_of_words place (words_of line)

-- ---- ends of sessions

abbrev pub read_cause : List ℕ → Option Cause
read_cause word =
    if bytes_eq word (codes "quit") then Some Quit
    else if bytes_eq word (codes "end") then Some End
    else if bytes_eq word (codes "readfault") then Some ReadFault
    else if bytes_eq word (codes "writefault") then Some WriteFault
    else if bytes_eq word (codes "budget") then Some Budget
    else None

abbrev pub ended_of : List ℕ → List ℕ → List ℕ → Option (ℕ × Cause)
ended_of keyword agent word =
    if bytes_eq keyword (codes "end") then (digit_of 7 agent >>= λ seat. read_cause word >>= λ cause. Some (seat, cause)) else None

abbrev pub end_of_words : List (List ℕ) → Option (ℕ × Cause)
end_of_words [] = None
end_of_words (keyword ∷ []) = None
end_of_words (keyword ∷ agent ∷ []) = None
end_of_words (keyword ∷ agent ∷ word ∷ []) = ended_of keyword agent word
end_of_words (keyword ∷ agent ∷ word ∷ other ∷ words) = None

-- the agent and the cause, from the line of a session's end
unfoldable pub read_end : List ℕ → Option (ℕ × Cause)
read_end line = end_of_words (words_of line)

-- ---- missed ticks

-- the number of missed ticks, from their line
unfoldable pub read_missed : List ℕ → Option ℕ
read_missed line = read_numbers (codes "missed") (within 0 255 ∷ []) line >>= λ numbers. Some (number_at numbers 0)
