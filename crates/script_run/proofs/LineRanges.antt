-- The lines of a script are in range.
use Rattle.std.proofs.Common.{◌≡◌, ℕ, ◌+◌, ◌-◌, ◌≤◌, Bool, true, false, cond, List, [], ◌∷◌, length, refl, subst, arith, Option, Some, None, ◌==◌, ◌&&◌, nat_le, nat_lt, codes, Result, Ok, Err, bytes_eq}
use Rattle.std.specs.List.{AllByRecursion}
use Rattle.std.proofs.lemmas.Bool.Decides.{nat_tests}
use Rattle.script_run.specs.{parts_of, Request, RequestFault, agent_of, BadLine, script_reason_number, then_lines, script_lines_from, ticks_of, count_of_agent, has_quit, limited_game_line, judged_game_line, judge_game_line, game_script, IsAskedInRange, IsLine}
use Rattle.line_protocol.specs.Requests.{request_of}
use Rattle.line_protocol.proofs.RequestLaws.{request_is}
use Rattle.script_run.specs.declared.fault.ScriptReason.{ScriptReason}
use Rattle.script_run.specs.declared.fault.ScriptReason.TheVariants.{Form, Ended, NoLineEnd, TooMany}
use Rattle.script_run.specs.declared.game.lines.GameLine.{GameLine}
use Rattle.script_run.specs.declared.game.lines.GameLine.TheVariants.{Tick, Asks}
use Rattle.script_run.specs.GameLines.{asks_of, request_line, game_line_of}

abbrev read : GameLine → Result GameLine ScriptReason
read line = Ok line

-- a line that was read is in range if the one that was made is
same_line : (made line : GameLine) → read made ≡ read line → IsLine made → IsLine line
same_line made line e is = let same : made ≡ line = cc in subst IsLine same is

agent_low : (digit agent : ℕ) → agent_of (digit ∷ []) ≡ Some agent → agent ≤ 7
agent_low digit agent is = by_tests (nat_le 48 digit) (nat_le digit 55) refl is
  where
    by_tests : (a b : Bool) → nat_le digit 55 ≡ b → ◌≡◌ {A = Option ℕ} (cond (a && b) (Some (digit - 48)) None) (Some agent) → agent ≤ 7
    by_tests true true e h =
        let same : digit - 48 ≡ agent = cc in
        let le : digit ≤ 55 = grind (arith, nat_tests, e) in omega (arith, same, le)
    by_tests true false e h = absurd cc
    by_tests false b e h = absurd cc

asked_low : (request : List ℕ) (asked : Result Request RequestFault) → request_of request ≡ asked → IsAskedInRange asked
asked_low request (Ok r) e = (request_is request r e).range
asked_low request (Err fault) e = tt

asks_low : (digit : ℕ) (agent : Option ℕ) (request : List ℕ) (line : GameLine) → agent_of (digit ∷ []) ≡ agent → asks_of agent request ≡ Ok line → IsLine line
asks_low digit None request line is h = absurd cc
asks_low digit (Some agent) request line is h = by_test (nat_lt 512 (length request)) h
  where
    by_test : (b : Bool) → cond b (Err Form) (read (Asks agent (request_of request))) ≡ read line → IsLine line
    by_test true e = absurd cc
    by_test false e = same_line (Asks agent (request_of request)) line e (agent_low digit agent is, asked_low request (request_of request) refl)

agent_line_low : (bytes : List ℕ) (line : GameLine) → request_line bytes ≡ Ok line → IsLine line
agent_line_low [] line h = absurd cc
agent_line_low (digit ∷ []) line h = absurd cc
agent_line_low (digit ∷ space ∷ request) line h = by_test (space == 32) h
  where
    by_test : (b : Bool) → cond b (asks_of (agent_of (digit ∷ [])) request) (Err Form) ≡ read line → IsLine line
    by_test true e = asks_low digit (agent_of (digit ∷ [])) request line refl e
    by_test false e = absurd cc

line_low : (bytes : List ℕ) (line : GameLine) → game_line_of bytes ≡ Ok line → IsLine line
unfolding game_line_of
line_low bytes line h = by_test (bytes_eq bytes (codes "tick")) h
  where
    by_test : (b : Bool) → cond b (Ok Tick) (request_line bytes) ≡ read line → IsLine line
    by_test true e = same_line Tick line e tt
    by_test false e = agent_line_low bytes line e

limited_low : (lines : List GameLine) (asked line : GameLine) → limited_game_line lines asked ≡ Ok line → IsLine asked → IsLine line
limited_low lines Tick line h is = by_test (nat_le 54 (ticks_of lines)) h
  where
    by_test : (b : Bool) → cond b (Err TooMany) (Ok Tick) ≡ read line → IsLine line
    by_test true e = absurd cc
    by_test false e = same_line Tick line e tt
limited_low lines (Asks agent asked) line h is = by_tests (has_quit lines agent) (nat_le 65536 (count_of_agent lines agent)) h
  where
    by_tests : (a b : Bool) → cond a (Err Ended) (cond b (Err TooMany) (Ok (Asks agent asked))) ≡ read line → IsLine line
    by_tests true b e = absurd cc
    by_tests false true e = absurd cc
    by_tests false false e = same_line (Asks agent asked) line e is

judged_low : (lines : List GameLine) (bytes : List ℕ) (asked : Result GameLine ScriptReason) (line : GameLine) → game_line_of bytes ≡ asked → judged_game_line lines asked ≡ Ok line → IsLine line
judged_low lines bytes (Err reason) line is h = absurd cc
judged_low lines bytes (Ok asked) line is h = limited_low lines asked line h (line_low bytes asked is)

abbrev all_read : List GameLine → Result (List GameLine) BadLine
all_read lines = Ok lines

lines_low : (lines result : List GameLine) (parts : List (List ℕ)) → AllByRecursion IsLine lines → script_lines_from judge_game_line lines parts ≡ Ok result → AllByRecursion IsLine result
lines_low lines result [] all h = let same : lines ≡ result = cc in subst (AllByRecursion IsLine) same all
lines_low lines result (last ∷ []) all h = by_test (length last == 0) h
  where
    by_test : (b : Bool) → cond b (Ok lines) (Err (length lines + 1, script_reason_number NoLineEnd)) ≡ all_read result → AllByRecursion IsLine result
    by_test true e = let same : lines ≡ result = cc in subst (AllByRecursion IsLine) same all
    by_test false e = absurd cc
lines_low lines result (part ∷ next ∷ parts) all h = by_line (judge_game_line lines part) refl h (λ line low. lines_low (line ∷ lines) result (next ∷ parts) (low, all))
  where
    by_line : (r : Result GameLine ScriptReason) → judge_game_line lines part ≡ r → then_lines (length lines + 1) r (λ line. script_lines_from judge_game_line (line ∷ lines) (next ∷ parts)) ≡ all_read result →
        ((line : GameLine) → IsLine line → script_lines_from judge_game_line (line ∷ lines) (next ∷ parts) ≡ Ok result → AllByRecursion IsLine result) → AllByRecursion IsLine result
    by_line (Err reason) is e go = absurd cc
    by_line (Ok line) is e go = go line (judged_low lines part (game_line_of part) line refl is) e

-- each line of a script is in range
pub script_low : (script : List ℕ) (lines : List GameLine) → game_script script ≡ Ok lines → AllByRecursion IsLine lines
script_low script lines h = lines_low [] lines (parts_of 10 script) tt h
