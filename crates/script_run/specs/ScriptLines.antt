-- The lines of a script, whatever they request.
use Rattle.std.specs.Prelude.{ℕ, ◌+◌, ◌==◌, if◌then◌else◌, ◌≡◌, List, [], ◌∷◌, length, Result, MatchResult, Ok, Err}
use Rattle.text_forms.specs.Words.{parts_of}
use Rattle.script_run.specs.declared.fault.ScriptReason.{ScriptReason}
use Rattle.script_run.specs.declared.fault.ScriptReason.TheVariants.{Form, Points, Ended, NoLineEnd, TooMany, TooManyOfCaller}

-- the number that is shown for a reason
abbrev pub script_reason_number : ScriptReason → ℕ
script_reason_number Form = 1
script_reason_number Points = 2
script_reason_number Ended = 2
script_reason_number NoLineEnd = 3
script_reason_number TooMany = 4
script_reason_number TooManyOfCaller = 5

-- the number of the first bad line, with that of its first reason
abbrev pub BadLine : Type 0
BadLine = ℕ × ℕ

module _ {Line : Type 0} where
  -- what follows a good line, or the reason with the line's number
  abbrev pub then_lines : ℕ → Result Line ScriptReason → (Line → Result (List Line) BadLine) → Result (List Line) BadLine
  then_lines number (Err reason) follows = Err (number, script_reason_number reason)
  then_lines number (Ok line) follows = follows line

  -- The lines of the parts of a text that was cut at its line ends, the last line first, after the lines before; or the first bad
  -- line. `judge` says what a line after others requests, or the first reason why it is bad. Nothing may follow the last line end.
  abbrev pub script_lines_from : (List Line → List ℕ → Result Line ScriptReason) → List Line → List (List ℕ) → Result (List Line) BadLine
  script_lines_from judge lines [] = Ok lines
  script_lines_from judge lines (last ∷ []) = if length last == 0 then Ok lines else Err (length lines + 1, script_reason_number NoLineEnd)
  script_lines_from judge lines (part ∷ next ∷ parts) =
      then_lines (length lines + 1) (judge lines part) (λ line. script_lines_from judge (line ∷ lines) (next ∷ parts))

  -- the lines of a script, the last line first, or the first bad line
  abbrev pub lines_of_text : (List Line → List ℕ → Result Line ScriptReason) → List ℕ → Result (List Line) BadLine
  lines_of_text judge text = script_lines_from judge [] (parts_of 10 text)

  -- If the counts are those of some lines, a line after them is answered as `judge` says, and it is counted if it is good.
  abbrev pub CountsLine : {A Counts : Type 0} → (List Line → Counts → Type 0) → (List Line → A → Result Line ScriptReason) → A → Counts → Counts → Result Line ScriptReason → Type 0
  CountsLine AreCounts judge line before after result = (lines : List Line) → AreCounts lines before →
      MatchResult result (λ asked. (judge lines line ≡ Ok asked) × AreCounts (asked ∷ lines) after) (λ reason. judge lines line ≡ Err reason)
