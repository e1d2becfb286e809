-- What is heard of a script whose bytes come piece by piece.
use Rattle.std.proofs.Common.{◌≡◌, ◌≢◌, ℕ, zero, suc, inl, inr, ◌+◌, ◌≤◌, false, List, [], ◌∷◌, ◌++◌, length, length-append, refl, sym, ap, ◌∙◌, arith, append_assoc, ◌==◌, Result, Ok, Err}
use Rattle.std.proofs.lemmas.Bool.Decides.{nat_tests}
use Rattle.script_run.specs.{parts_of, has_end, judge_game_line, game_script, Heard, heard_from, BadLine, script_lines_from, script_reason_number}
use Rattle.script_run.specs.declared.game.lines.GameLine.{GameLine}
use Rattle.script_run.specs.declared.fault.ScriptReason.{ScriptReason}
use Rattle.script_run.specs.declared.fault.ScriptReason.TheVariants.{NoLineEnd}
use Rattle.script_run.specs.HeardScripts as heard
use Rattle.script_run.specs.ScriptLines as scripts
use Rattle.script_run.proofs.LineParts.{Splits, first_line, line_part, one_part}
use Rattle.script_run.proofs.ScriptReading.{some_part}

-- a part behind which another one stands is a line
heard_line : (lines : List GameLine) (part : List ℕ) (parts : List (List ℕ)) → length parts ≢ 0 →
    heard_from lines (part ∷ parts) ≡ heard.heard_after lines (judge_game_line lines part) (λ line. heard_from (line ∷ lines) parts)
heard_line lines part [] some = absurd (some refl)
heard_line lines part (next ∷ parts) some = refl

-- what is heard of a line with its end, and of what comes behind it
pub heard_next : (lines : List GameLine) (line more : List ℕ) (read : Result GameLine ScriptReason) → has_end line ≡ false → judge_game_line lines line ≡ read →
    heard_from lines (parts_of 10 (line ++ 10 ∷ more)) ≡ heard.heard_after lines read (λ asked. heard_from (asked ∷ lines) (parts_of 10 more))
heard_next lines line more read none is =
    ap (heard_from lines) (line_part line more none) ∙ heard_line lines line (parts_of 10 more) (some_part more)
    ∙ ap (λ (r : Result GameLine ScriptReason). heard.heard_after lines r (λ asked. heard_from (asked ∷ lines) (parts_of 10 more))) is

-- bytes without a line end are heard of no line
pub heard_rest : (lines : List GameLine) (rest : List ℕ) → has_end rest ≡ false → heard_from lines (parts_of 10 rest) ≡ (lines, Ok rest)
heard_rest lines rest none = ap (heard_from lines) (one_part rest none)

-- ---- what a bad line decides

-- a line that is good is followed by one that stays bad
bad_behind : (lines at : List GameLine) (given more line rest : List ℕ) (bad : BadLine) → has_end line ≡ false → given ≡ line ++ 10 ∷ rest → heard_from lines (parts_of 10 given) ≡ (at, Err bad) →
    ((asked : GameLine) → heard_from (asked ∷ lines) (parts_of 10 rest) ≡ (at, Err bad) → heard_from (asked ∷ lines) (parts_of 10 (rest ++ more)) ≡ (at, Err bad)) →
    heard_from lines (parts_of 10 (given ++ more)) ≡ (at, Err bad)
bad_behind lines at given more line rest bad none whole is behind =
    let bytes : given ++ more ≡ line ++ 10 ∷ (rest ++ more) = ap (λ (l : List ℕ). l ++ more) whole ∙ append_assoc line (10 ∷ rest) more in
    ap (λ (l : List ℕ). heard_from lines (parts_of 10 l)) bytes ∙ heard_next lines line (rest ++ more) (judge_game_line lines line) none refl
    ∙ by_read (judge_game_line lines line)
    (sym (heard_next lines line rest (judge_game_line lines line) none refl) ∙ (sym (ap (λ (l : List ℕ). heard_from lines (parts_of 10 l)) whole) ∙ is))
  where
    by_read : (read : Result GameLine ScriptReason) → heard.heard_after lines read (λ asked. heard_from (asked ∷ lines) (parts_of 10 rest)) ≡ (at, Err bad) →
        heard.heard_after lines read (λ asked. heard_from (asked ∷ lines) (parts_of 10 (rest ++ more))) ≡ (at, Err bad)
    by_read (Err reason) was = was
    by_read (Ok asked) was = behind asked was

no_bad : (lines at : List GameLine) (rest : List ℕ) (bad : BadLine) → ◌≡◌ {A = Heard} (lines, Ok rest) (at, Err bad) → ⊥
no_bad lines at rest bad same = let second : ◌≡◌ {A = Result (List ℕ) BadLine} (Ok rest) (Err bad) = ap (λ (h : Heard). h.1) same in absurd cc

-- a bad line stays bad, whatever comes behind it
bad_for : (n : ℕ) (lines at : List GameLine) (given more : List ℕ) (bad : BadLine) → length given ≤ n → heard_from lines (parts_of 10 given) ≡ (at, Err bad) → Splits given →
    heard_from lines (parts_of 10 (given ++ more)) ≡ (at, Err bad)
bad_for n lines at given more bad short is (inl none) = absurd (no_bad lines at given bad (sym (heard_rest lines given none) ∙ is))
bad_for zero lines at given more bad short is (inr found) = absurd (omega (arith, short, ap length found.2, length-append found.0 (10 ∷ found.1)))
bad_for (suc m) lines at given more bad short is (inr found) =
    bad_behind lines at given more found.0 found.1 bad found.3 found.2 is
    (λ asked was. bad_for m (asked ∷ lines) at found.1 more bad (omega (arith, short, ap length found.2, length-append found.0 (10 ∷ found.1))) was (first_line found.1))

pub bad_stays : (lines at : List GameLine) (given more : List ℕ) (bad : BadLine) → heard_from lines (parts_of 10 given) ≡ (at, Err bad) →
    heard_from lines (parts_of 10 (given ++ more)) ≡ (at, Err bad)
bad_stays lines at given more bad is = bad_for (length given) lines at given more bad (omega arith) is (first_line given)

-- ---- the lines of a whole script

-- the lines of a script of which this was heard
abbrev pub lines_in : Heard → Result (List GameLine) BadLine
lines_in (lines, Err bad) = Err bad
lines_in (lines, Ok []) = Ok lines
lines_in (lines, Ok (byte ∷ rest)) = Err (length lines + 1, script_reason_number NoLineEnd)

last_part : (lines : List GameLine) (rest : List ℕ) → script_lines_from judge_game_line lines (rest ∷ []) ≡ lines_in (lines, Ok rest)
last_part lines [] = refl
last_part lines (byte ∷ rest) = let some : (length (byte ∷ rest) == 0) ≡ false = grind (arith, nat_tests) in rw some refl

lines_heard : (lines : List GameLine) (parts : List (List ℕ)) → script_lines_from judge_game_line lines parts ≡ lines_in (heard_from lines parts)
lines_heard lines [] = refl
lines_heard lines (rest ∷ []) = last_part lines rest
lines_heard lines (part ∷ next ∷ parts) = by_read (judge_game_line lines part) (λ line. lines_heard (line ∷ lines) (next ∷ parts))
  where
    by_read : (read : Result GameLine ScriptReason) → ((line : GameLine) → script_lines_from judge_game_line (line ∷ lines) (next ∷ parts) ≡ lines_in (heard_from (line ∷ lines) (next ∷ parts))) →
        scripts.then_lines (length lines + 1) read (λ line. script_lines_from judge_game_line (line ∷ lines) (next ∷ parts)) ≡ lines_in (heard.heard_after lines read (λ line. heard_from (line ∷ lines) (next ∷ parts)))
    by_read (Err reason) rest = refl
    by_read (Ok line) rest = rest line

pub script_heard : (given : List ℕ) → game_script given ≡ lines_in (heard_from [] (parts_of 10 given))
script_heard given = lines_heard [] (parts_of 10 given)
