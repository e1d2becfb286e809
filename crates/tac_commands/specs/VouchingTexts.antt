-- What is written about a link by which a log was judged.
use Rattle.std.specs.Prelude.{ℕ, ◌==◌, List, [], ◌++◌, codes, decimal, if◌then◌else◌}
use Rattle.tac_commands.specs.Prelude.{Difference, Vouching}
use Rattle.link_audit.specs.declared.vouching.Difference.TheVariants as differences
use Rattle.link_audit.specs.declared.vouching.Vouching.TheVariants.{Whole, Cut, Not}
use Rattle.tac_commands.specs.NumberedLines.{counted, numbered}
use Rattle.tac_commands.specs.Outcomes.{Outcome, Done, Unsound}

-- the line of the first difference
abbrev pub difference_text : Difference → List ℕ
difference_text differences.Seat = codes "unvouched seat\n"
difference_text differences.Welcome = codes "unvouched welcome\n"
difference_text (differences.Line line) = counted (codes "unvouched line") line
difference_text (differences.Entry good position) = numbered (codes "unvouched entry") good position
difference_text (differences.Cash position) = counted (codes "unvouched cash") position
difference_text differences.Cause = codes "unvouched cause\n"

-- how many replies say that the server had no memory to read the line, if any does
abbrev pub memory_words : ℕ → List ℕ
memory_words memory = if memory == 0 then [] else codes " memory " ++ decimal memory

-- the line that vouches for a link, all of whose lines, this many, have replies
abbrev pub whole_text : ℕ → ℕ → ℕ → List ℕ
whole_text agent lines memory = codes "vouched " ++ decimal agent ++ codes " whole " ++ decimal lines ++ memory_words memory ++ codes "\n"

-- the line that vouches for a link up to this many replies, with the number of later lines that left a call or a reading
abbrev pub cut_text : ℕ → ℕ → ℕ → ℕ → List ℕ
cut_text agent lines after memory = codes "vouched " ++ decimal agent ++ codes " cut " ++ decimal lines ++ codes " " ++ decimal after ++ memory_words memory ++ codes "\n"

abbrev pub vouching_text : Vouching → List ℕ
vouching_text (Whole agent lines memory) = whole_text agent lines memory
vouching_text (Cut agent lines after memory) = cut_text agent lines after memory
vouching_text (Not difference) = difference_text difference

-- how a command with this result ends
abbrev pub vouching_outcome : Vouching → Outcome
vouching_outcome (Not difference) = Unsound (difference_text difference)
vouching_outcome vouching = Done (vouching_text vouching)
