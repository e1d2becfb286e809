-- The gate: which first line of a link takes which seat. The rule is our own.
use Rattle.std.specs.Prelude.{ℕ, if◌then◌else◌, List, [], ◌∷◌, Bool, true, false, Option, Some, None, codes, position, slice_index_or, slice_set, bytes_eq}
use Rattle.text_forms.specs.Words.{words_of}
use Rattle.game_text.specs.SeatWords.{is_seat_word}
use Rattle.line_protocol.specs.declared.admission.Verdict.{Verdict}
use Rattle.line_protocol.specs.declared.admission.Verdict.TheVariants.{Seated, Syntax, WrongWord, Taken}

-- the seats, in the order of the agents
pub record Seats : Type 0 where
  -- the word of each seat
  pub words : List (List ℕ)
  -- whether each seat is taken
  pub taken : List Bool

-- the seat word in the words of a line `hello WORD`, where WORD is 1 to 16 bytes of `a` to `z` and `0` to `9`
abbrev pub greeted : List (List ℕ) → Option (List ℕ)
greeted (first ∷ word ∷ []) = if bytes_eq first (codes "hello") then (if is_seat_word word then Some word else None) else None
greeted words = None

-- the seat word of a greeting, the line `hello WORD`
abbrev pub greeting_of : List ℕ → Option (List ℕ)
greeting_of line = greeted (words_of line)

-- If no seat has the word of a greeting, the verdict is `WrongWord`; if that seat is taken, `Taken`; otherwise the link gets the seat.
abbrev pub seat_verdict : List Bool → Option ℕ → Verdict
seat_verdict taken None = WrongWord
seat_verdict taken (Some seat) = if slice_index_or taken seat false then Taken else Seated seat

-- The verdict on a link's first line: `Syntax` if it is no greeting, and otherwise that of the seat which has the greeting's word.
abbrev pub word_verdict : Seats → Option (List ℕ) → Verdict
word_verdict seats None = Syntax
word_verdict seats (Some word) = seat_verdict seats.taken (position (bytes_eq word) seats.words)

-- The first line of a link is `hello WORD`, where WORD is the agent's seat word. This is the verdict on such a line.
-- Row: first_line_decides (worked_rows/proofs/Links.antt)
-- Row: seat_is_taken_for_the_next_link (worked_rows/proofs/Links.antt)
abbrev pub verdict_of : Seats → List ℕ → Verdict
verdict_of seats line = word_verdict seats (greeting_of line)

-- A seat is taken once a link has got it. No other verdict changes the seats.
-- Row: first_line_decides (worked_rows/proofs/Links.antt)
abbrev pub seats_after : Seats → Verdict → Seats
seats_after seats (Seated agent) = record { words = seats.words; taken = slice_set seats.taken agent true }
seats_after seats verdict = seats
