-- Reading a text line by line.
use Rattle.std.specs.Prelude.{◌≡◌, ℕ, zero, suc, ◌+◌, List, [], ◌∷◌, ◌++◌, Result, MatchResult, Ok, Err}
use Rattle.text_forms.specs.declared.lines.Reason.{Reason}
use Rattle.text_forms.specs.declared.lines.BadLine.{BadLine}
use Rattle.text_forms.specs.Lines.{Remaining, due_of, at_line}

infixl 10 ◌>>=◌
-- a step and the one after it, which is made only if the first gives no fault
abbrev pub ◌>>=◌ : {A B E : Type 0} → Result A E → (A → Result B E) → Result B E
(Ok x) >>= f = f x
(Err fault) >>= f = Err fault

-- the next line, read by a form, and the lines after it
abbrev pub read_by : {A : Type 0} → (List ℕ → Result A Reason) → Remaining → Result (A × Remaining) BadLine
read_by form left = do
  line ← due_of left
  value ← at_line line.0.number (form line.0.bytes)
  Ok (value, line.1)

-- a number of parts of a text, numbered upwards from `from`, each read by the step
unfoldable pub repeat : {A : Type 0} → ℕ → ℕ → (ℕ → Remaining → Result (A × Remaining) BadLine) → Remaining → Result (List A × Remaining) BadLine
repeat zero from step left = Ok ([], left)
repeat (suc count) from step left = do
  first ← step from left
  others ← repeat count (from + 1) step first.1
  Ok (first.0 ∷ others.0, others.1)

-- the call wrote the values of these parts and returned the lines after them, or it returned the fault
abbrev pub WritesParts : {A : Type 0} → Result (List A × Remaining) BadLine → List A → Result Remaining BadLine → Type 0
WritesParts parts values result = MatchResult result (λ left. parts ≡ Ok (values, left)) (λ bad. parts ≡ Err bad)

-- the lines of parts, which are numbered upwards from `from`
abbrev pub lines_of_parts : {A : Type 0} → (ℕ → A → List (List ℕ)) → ℕ → List A → List (List ℕ)
lines_of_parts lines from [] = []
lines_of_parts lines from (part ∷ parts) = lines from part ++ lines_of_parts lines (from + 1) parts

-- the lines of a part that is one line
abbrev pub one_line : {A : Type 0} → (ℕ → A → List ℕ) → ℕ → A → List (List ℕ)
one_line line number part = line number part ∷ []
