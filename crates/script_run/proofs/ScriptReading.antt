-- The lines of a script, read one after the other.
use Rattle.std.proofs.Common.{◌≡◌, ◌≢◌, ℕ, ◌+◌, ◌≤◌, List, [], ◌∷◌, length, refl, sym, ap, ◌∙◌, arith, ◌==◌, Result, Ok, Err}
use Rattle.std.proofs.lemmas.List.Splits.{length-slice_split}
use Rattle.text_forms.specs.Words.{parts_of}
use Rattle.script_run.specs.declared.fault.ScriptReason.{ScriptReason}
use Rattle.script_run.specs.ScriptLines.{script_reason_number, BadLine, then_lines, script_lines_from, lines_of_text}

-- Some lines of a script were read, the last one first. The rest follows them, and its first line has the number.
pub record HasRead {Line : Type 0} (judge : List Line → List ℕ → Result Line ScriptReason) (lines : List Line) (script rest : List ℕ) (number : ℕ) : Type 0 where
  pub at : number ≡ length lines + 1
  pub within : number + length rest ≤ length script + 1
  pub left : script_lines_from judge lines (parts_of 10 rest) ≡ lines_of_text judge script

-- a part that is not the last is a line
pub line_first : {Line : Type 0} (judge : List Line → List ℕ → Result Line ScriptReason) (lines : List Line) (part : List ℕ) (parts : List (List ℕ)) → length parts ≢ 0 →
    script_lines_from judge lines (part ∷ parts) ≡ then_lines (length lines + 1) (judge lines part) (λ line. script_lines_from judge (line ∷ lines) parts)
line_first judge lines part [] some = absurd (some refl)
line_first judge lines part (next ∷ parts) some = refl

pub some_part : (bytes : List ℕ) → length (parts_of 10 bytes) ≢ 0
some_part bytes e = let count = length-slice_split (λ b. b == 10) bytes in omega (arith, count, e)

next_line : {Line : Type 0} (judge : List Line → List ℕ → Result Line ScriptReason) (lines : List Line) (rest line after : List ℕ) (read : Result Line ScriptReason) →
    parts_of 10 rest ≡ line ∷ parts_of 10 after → judge lines line ≡ read →
    script_lines_from judge lines (parts_of 10 rest) ≡ then_lines (length lines + 1) read (λ l. script_lines_from judge (l ∷ lines) (parts_of 10 after))
next_line {Line = Line} judge lines rest line after read e is =
    ap (script_lines_from judge lines) e ∙ line_first judge lines line (parts_of 10 after) (some_part after)
    ∙ ap (λ (r : Result Line ScriptReason). then_lines (length lines + 1) r (λ l. script_lines_from judge (l ∷ lines) (parts_of 10 after))) is

-- the next line is a good one
pub goes_on : {Line : Type 0} (judge : List Line → List ℕ → Result Line ScriptReason) (lines : List Line) (script rest line after : List ℕ) (number : ℕ) (asked : Line) → HasRead judge lines script rest number →
    parts_of 10 rest ≡ line ∷ parts_of 10 after → length line + length after + 1 ≡ length rest → judge lines line ≡ Ok asked → HasRead judge (asked ∷ lines) script after (number + 1)
goes_on judge lines script rest line after number asked read e len good =
    let within = read.within in
    let at = read.at in
    record {
      at = omega (arith, at);
      within = omega (arith, within, len);
      left = sym (next_line judge lines rest line after (Ok asked) e good) ∙ read.left;
    }

-- the next line is a bad one
pub stops : {Line : Type 0} (judge : List Line → List ℕ → Result Line ScriptReason) (lines : List Line) (script rest line after : List ℕ) (number : ℕ) (reason : ScriptReason) → HasRead judge lines script rest number →
    parts_of 10 rest ≡ line ∷ parts_of 10 after → judge lines line ≡ Err reason → lines_of_text judge script ≡ Err (number, script_reason_number reason)
stops {Line = Line} judge lines script rest line after number reason read e bad =
    sym read.left ∙ next_line judge lines rest line after (Err reason) e bad ∙ ap {B = Result (List Line) BadLine} (λ (n : ℕ). Err (n, script_reason_number reason)) (sym read.at)
