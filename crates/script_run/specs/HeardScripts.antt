-- What was read of a game script that is read piece by piece, and how the script stands then.
use Rattle.std.specs.Prelude.{ℕ, ◌+◌, nat_lt, Bool, true, false, List, [], ◌∷◌, length, take, Result, Ok, Err}
use Rattle.script_run.specs.Prelude.{parts_of, TEXT_BYTES}
use Rattle.script_run.specs.declared.game.lines.GameLine.{GameLine}
use Rattle.script_run.specs.declared.fault.ScriptReason.{ScriptReason}
use Rattle.script_run.specs.declared.fault.ScriptReason.TheVariants.{NoLineEnd}
use Rattle.script_run.specs.ScriptLines.{BadLine, script_reason_number}
use Rattle.script_run.specs.GameScripts.{judge_game_line}

-- the good lines, the last one first as in the run of a whole script, and then the bytes after the last line end, or the first bad line
abbrev pub Heard : Type 0
Heard = List GameLine × Result (List ℕ) BadLine

-- what follows a line, if it is good
abbrev pub heard_after : List GameLine → Result GameLine ScriptReason → (GameLine → Heard) → Heard
heard_after lines (Err reason) follows = (lines, Err (length lines + 1, script_reason_number reason))
heard_after lines (Ok line) follows = follows line

-- what was read, after the lines before, from the parts of a text that was cut at its line ends; the last part has no line end yet
abbrev pub heard_from : List GameLine → List (List ℕ) → Heard
heard_from lines [] = (lines, Ok [])
heard_from lines (rest ∷ []) = (lines, Ok rest)
heard_from lines (part ∷ next ∷ parts) = heard_after lines (judge_game_line lines part) (λ line. heard_from (line ∷ lines) (next ∷ parts))

-- what was read from the bytes that a script gave; only as many of them count as a script may have
abbrev pub heard : List ℕ → Heard
heard given = heard_from [] (parts_of 10 (take TEXT_BYTES given))

-- its good lines, the last one first
abbrev pub heard_lines : List ℕ → List GameLine
heard_lines given = (heard given).0

-- ---- how a script stands

-- where the reading of a script stopped: at its end, at a read that failed, or before that
pub data Reading : Type 0 where
  AtEnd : Reading
  AtFault : Reading
  Before : Reading

-- all lines are good and all is read; a line is bad; there are too many bytes; a read failed; or more may come
pub data Standing : Type 0 where
  Whole : Standing
  BadAt : (line : ℕ) → (reason : ℕ) → Standing
  Overlong : Standing
  BrokenOff : Standing
  Open : Standing

-- The first bad line comes before all else; then too many bytes; then a read that failed. The last line may lack its end until
-- all is read.
abbrev pub standing_after : List GameLine → Result (List ℕ) BadLine → Bool → Reading → Standing
standing_after lines (Err bad) long reading = BadAt bad.0 bad.1
standing_after lines (Ok rest) true reading = Overlong
standing_after lines (Ok rest) false AtFault = BrokenOff
standing_after lines (Ok rest) false Before = Open
standing_after lines (Ok []) false AtEnd = Whole
standing_after lines (Ok (byte ∷ rest)) false AtEnd = BadAt (length lines + 1) (script_reason_number NoLineEnd)

-- how a script stands that gave these bytes and whose reading stopped there
abbrev pub script_standing : List ℕ → Reading → Standing
script_standing given reading = standing_after (heard given).0 (heard given).1 (nat_lt TEXT_BYTES (length given)) reading
