-- A log that is in its ranges except for the lines of its certificates is in all of them if it is not too long.
use Rattle.std.proofs.Common.{ℕ, ◌+◌, ◌≤◌, List, [], ◌∷◌, ◌++◌, length, arith, codes, length-append}
use Rattle.std.specs.List.{AllByRecursion}
use Rattle.std.proofs.lemmas.List.Elements.{All-from_recursion}
use Rattle.text_forms.specs.Steps.{lines_of_parts}
use Rattle.game_log.specs.Prelude.{TEXT_BYTES, tree_lines, Scored, first_lines, histories_text, agent_lines, sheet_part, LoggedGame, IsLogged, logged_text}
use Rattle.log_text.proofs.SheetsAgain.{lines_short, agent_long}
use Rattle.game_log.specs.LogRanges.{IsRanged}

agents_long : (from : ℕ) (scores : List Scored) (m : ℕ) → length (lines_of_parts agent_lines from scores) ≤ m → AllByRecursion (λ (scored : Scored). length (tree_lines scored.tree) ≤ m) scores
agents_long from [] m le = tt
agents_long from (scored ∷ scores) m le =
    let apart = length-append (agent_lines from scored) (lines_of_parts agent_lines (from + 1) scores) in
    let one = agent_long from scored in
    (omega (arith, apart, one, le), agents_long (from + 1) scores m (omega (arith, apart, le)))

trees_short : (log : LoggedGame) → AllByRecursion (λ (scored : Scored). length (tree_lines scored.tree) ≤ length (logged_text log)) log.scores
trees_short log =
    let one = length-append (first_lines log.head) (histories_text log.histories log.cash ++ sheet_part log.scores) in
    let two = length-append (histories_text log.histories log.cash) (sheet_part log.scores) in
    let lines = lines_short (codes "sheet" ∷ [] ++ (lines_of_parts agent_lines 0 log.scores ++ codes "end" ∷ [])) in
    let apart = length-append (lines_of_parts agent_lines 0 log.scores) (codes "end" ∷ []) in
    agents_long 0 log.scores (length (logged_text log)) (omega (arith, one, two, lines, apart))

-- a log that is not too long
pub short_log : (log : LoggedGame) → IsRanged log → length (logged_text log) ≤ TEXT_BYTES → IsLogged log
short_log log ranged short =
    let few = All-from_recursion (λ (scored : Scored). length (tree_lines scored.tree) ≤ length (logged_text log)) log.scores (trees_short log) in
    record {
      head = ranged.head;
      goods = ranged.goods;
      histories = ranged.histories;
      few_cash = ranged.few_cash;
      cash = ranged.cash;
      agents = ranged.agents;
      scores = λ k d inside. ranged.scores k d inside (let lines = few k d inside in omega (arith, lines, short));
    }
