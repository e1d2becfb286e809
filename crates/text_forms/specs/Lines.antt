-- The lines of a text with their numbers.
use Rattle.std.specs.Prelude.{◌≡◌, ℕ, zero, suc, ◌+◌, ◌==◌, ◌&&◌, if◌then◌else◌, List, [], ◌∷◌, ◌++◌, map, Bool, true, false, Result, Ok, Err, Option, Some, None, option_map, flat_map}
use Rattle.text_forms.specs.declared.lines.Reason.{Reason}
use Rattle.text_forms.specs.declared.lines.Reason.TheVariants.{Keyword, WordCount, Spelling, OutOfRange, NotDue, Repeated, TextEnd}
use Rattle.text_forms.specs.declared.lines.BadLine.{BadLine}
use Rattle.text_forms.specs.declared.lines.Ending.{Ending}

-- the number that a refusal shows for each reason
abbrev pub reason_number : Reason → ℕ
reason_number Keyword = 1
reason_number WordCount = 2
reason_number Spelling = 3
reason_number OutOfRange = 4
reason_number NotDue = 5
reason_number Repeated = 6
reason_number TextEnd = 7

-- a line with its number
pub record NumberedLine : Type 0 where
  pub number : ℕ
  pub bytes : List ℕ

-- the lines left of a text, the number of the line after the last line end, and whether that line is empty
pub record Remaining : Type 0 where
  pub lines : List NumberedLine
  pub last : ℕ
  pub ended : Bool

-- whether a line is empty or begins with `#`
abbrev pub is_comment : List ℕ → Bool
is_comment [] = true
is_comment (first ∷ rest) = first == 35

-- whether nothing comes after the last line end
abbrev pub is_nothing : List ℕ → Bool
is_nothing [] = true
is_nothing (first ∷ rest) = false

-- a line in front of others; it is skipped if comments are skipped and it is one
abbrev pub before : Bool → ℕ → List ℕ → Remaining → Remaining
before skips number line others = if skips && is_comment line then others else record others { lines = record { number = number; bytes = line } ∷ others.lines }

-- the lines of a text that was cut at its line ends; the first line has the given number
abbrev pub lines_from : Bool → ℕ → List (List ℕ) → Remaining
lines_from skips number [] = record { lines = []; last = number; ended = true }
lines_from skips number (rest ∷ []) = record { lines = []; last = number; ended = is_nothing rest }
lines_from skips number (line ∷ next ∷ parts) = before skips number line (lines_from skips (number + 1) (next ∷ parts))

-- the next line and those after it, or where the text ends
abbrev pub next_in : Remaining → List NumberedLine → Result (NumberedLine × Remaining) Ending
next_in left [] = Err (record { line = left.last; whole = left.ended })
next_in left (line ∷ lines) = Ok (line, record left { lines = lines })

abbrev pub next_of : Remaining → Result (NumberedLine × Remaining) Ending
next_of left = next_in left left.lines

-- the same where a line is required: if none is left, the fault is `TextEnd`
abbrev pub due_in : Remaining → List NumberedLine → Result (NumberedLine × Remaining) BadLine
due_in left [] = Err (record { line = left.last; reason = TextEnd })
due_in left (line ∷ lines) = Ok (line, record left { lines = lines })

-- the next line where one is required
abbrev pub due_of : Remaining → Result (NumberedLine × Remaining) BadLine
due_of left = due_in left left.lines

-- the fault `TextEnd` if a line is left, or if the last line has no line end
abbrev pub nothing_in : Remaining → List NumberedLine → Result (Unit {0}) BadLine
nothing_in left [] = if left.ended then Ok tt else Err (record { line = left.last; reason = TextEnd })
nothing_in left (line ∷ lines) = Err (record { line = line.number; reason = TextEnd })

-- the fault `TextEnd` where a text must end and goes on
abbrev pub nothing_left : Remaining → Result (Unit {0}) BadLine
nothing_left left = nothing_in left left.lines

-- a line with its line end, in front of a block
abbrev pub with_line : List ℕ → List ℕ × Remaining → List ℕ × Remaining
with_line line block = (line ++ 10 ∷ block.0, block.1)

-- the next `count` lines, if they have consecutive numbers from `number`: no skipped line is among them
abbrev pub block_in : ℕ → ℕ → Remaining → List NumberedLine → Option (List ℕ × Remaining)
block_in number zero left lines = Some ([], record left { lines = lines })
block_in number (suc count) left [] = None
block_in number (suc count) left (line ∷ lines) = if line.number == number then option_map (with_line line.bytes) (block_in (number + 1) count left lines) else None

abbrev pub first_number : List NumberedLine → ℕ
first_number [] = 0
first_number (line ∷ lines) = line.number

-- the bytes of the next `count` lines with their line ends, and the lines after them
abbrev pub block_of : ℕ → Remaining → Option (List ℕ × Remaining)
block_of count left = block_in (first_number left.lines) count left left.lines

-- the number of a bad line is added to the reason
abbrev pub at_line : {A : Type 0} → ℕ → Result A Reason → Result A BadLine
at_line number (Ok x) = Ok x
at_line number (Err reason) = Err (record { line = number; reason = reason })

-- the text of lines, each with its line end
abbrev pub text_of : List (List ℕ) → List ℕ
text_of lines = flat_map (λ line. line ++ 10 ∷ []) lines

-- the text after a call begins with the text before it
abbrev pub GoesOn : List ℕ → List ℕ → Type 0
GoesOn before after = (part : List ℕ) × (after ≡ before ++ part)

-- exactly these lines are left, and the last of them has its line end
pub record AreLinesLeft (lines : List (List ℕ)) (left : Remaining) : Type 0 where
  pub same : map (λ line. line.bytes) left.lines ≡ lines
  pub ended : left.ended ≡ true
