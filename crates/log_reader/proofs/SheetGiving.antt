-- A sheet in its ranges is read as itself, and so is a whole log.
use Rattle.std.proofs.Common.{◌≡◌, ℕ, suc, ◌+◌, ◌≤◌, ◌<◌, List, [], ◌∷◌, ◌++◌, Some, Ok, length, refl, sym, ap, ◌∙◌, append_assoc, arith, eq-eqb, codes, All, append-nil, length-append}
use Rattle.std.specs.List.{AllByRecursion}
use Rattle.std.proofs.lemmas.Grind.{flat_map-append}
use Rattle.std.proofs.lemmas.List.Concat.{flat_map-cons}
use Rattle.std.proofs.lemmas.List.Elements.{All-head, All-tail}
use Rattle.tac_base.proofs.Signed.{Lacks}
use Rattle.log_reader.specs.{TEXT_BYTES, Remaining, text_of, first_number, block_in, block_of, repeat, lines_of_parts, one_line, Package, IsPackage, Tree, leaf, split, IsCertificate, tree_lines, cert_text, Scored, is_text, read_score, package_of, line_by, cert_in, score_in, log_in}
use Rattle.bound_cert.proofs.TreesAgain.{text_again, tree_lines_lack}
use Rattle.line_protocol.proofs.JoinedWords.{lacks}
use Rattle.log_text.specs.{histories_text, first_lines, score_line, package_line, cert_line, agent_lines, sheet_part, LoggedGame, logged_text, IsLoggedScore, IsLogged}
use Rattle.log_text.proofs.Cuts.{line_lacks}
use Rattle.log_text.proofs.ShownNumbers.{number_is}
use Rattle.log_text.proofs.SheetsAgain.{cert_words, cert_are}
use Rattle.log_reader.proofs.SheetFormLaws.{agents_cert_text, score_again, package_again, count_again, package_lacks, score_lacks}
use Rattle.log_reader.proofs.Taking.{one_text, bytes_of_parts, AllFrom, parts_of_lines, sheet_text}
use Rattle.log_reader.proofs.Giving.{Any, at, next_at, in_front, line_given, whole_given, GivesBytes, repeat_given}
use Rattle.log_reader.proofs.Refusals.{is_read}
use Rattle.log_reader.proofs.LogCases.{whole_log}
use Rattle.log_reader.proofs.LogGiving.{text_given, head_given, histories_given, any_kept}

-- ---- certificates

-- what is left after a block
after_block : (left : Remaining) (number : ℕ) (rest : List ℕ) → left.last ≡ (at number rest).last → left.ended ≡ (at number rest).ended → record left { lines = (at number rest).lines } ≡ at number rest
after_block left number rest last ended = λ i. record { lines = (at number rest).lines; last = last i; ended = ended i }

block_given : (lines : List (List ℕ)) (number : ℕ) (rest : List ℕ) (left : Remaining) → AllByRecursion (Lacks 10) lines → left.last ≡ (at number (text_of lines ++ rest)).last → left.ended ≡ (at number (text_of lines ++ rest)).ended →
    (m : ℕ) × (block_in number (length lines) left (at number (text_of lines ++ rest)).lines ≡ Some (text_of lines, at m rest))
block_given [] number rest left lacks last ended = (number, ap (λ (after : Remaining). Some ([], after)) (after_block left number rest last ended))
block_given (line ∷ lines) number rest left lacks last ended =
    let after = text_of lines ++ rest in
    let made : text_of (line ∷ lines) ≡ line ++ 10 ∷ text_of lines = flat_map-cons (λ l. l ++ 10 ∷ []) line lines ∙ append_assoc line (10 ∷ []) (text_of lines) in
    let text : text_of (line ∷ lines) ++ rest ≡ line ++ 10 ∷ after = ap (λ (t : List ℕ). t ++ rest) made ∙ append_assoc line (10 ∷ text_of lines) rest in
    let here : at number (text_of (line ∷ lines) ++ rest) ≡ in_front number line (at (number + 1) after) = ap (at number) text ∙ next_at number line after lacks.0 in
    let more = block_given lines (number + 1) rest left lacks.1 (last ∙ ap (λ (l : Remaining). l.last) here) (ended ∙ ap (λ (l : Remaining). l.ended) here) in (
      more.0,
      ap (λ (l : Remaining). block_in number (suc (length lines)) left l.lines) here ∙ rw (eq-eqb number number refl, more.1) refl
          ∙ ap (λ (t : List ℕ). Some (t, at more.0 rest)) (sym made),
    )

first_is : (line : List ℕ) (lines : List (List ℕ)) (number : ℕ) (rest : List ℕ) → Lacks 10 line → first_number (at number (text_of (line ∷ lines) ++ rest)).lines ≡ number
first_is line lines number rest lacks =
    let made : text_of (line ∷ lines) ≡ line ++ 10 ∷ text_of lines = flat_map-cons (λ l. l ++ 10 ∷ []) line lines ∙ append_assoc line (10 ∷ []) (text_of lines) in
    let text : text_of (line ∷ lines) ++ rest ≡ line ++ 10 ∷ (text_of lines ++ rest) = ap (λ (t : List ℕ). t ++ rest) made ∙ append_assoc line (10 ∷ text_of lines) rest in
    ap (λ (l : Remaining). first_number l.lines) (ap (at number) text ∙ next_at number line (text_of lines ++ rest) lacks)

-- a block of some lines
block_found : (lines : List (List ℕ)) (number : ℕ) (rest : List ℕ) → 0 < length lines → AllByRecursion (Lacks 10) lines → (m : ℕ) × (block_of (length lines) (at number (text_of lines ++ rest)) ≡ Some (text_of lines, at m rest))
block_found [] number rest some lacks = absurd (omega (arith, some))
block_found (line ∷ lines) number rest some lacks =
    let left = at number (text_of (line ∷ lines) ++ rest) in
    let b = block_given (line ∷ lines) number rest left lacks refl refl in
    (b.0, ap (λ (n : ℕ). block_in n (suc (length lines)) left left.lines) (first_is line lines number rest lacks.0) ∙ b.1)

some_line : (tree : Tree) → 0 < length (tree_lines tree)
some_line (leaf prices) = omega arith
some_line (split client feature children) = omega arith

count_lacks : (agent count : ℕ) → agent ≤ 7 → count ≤ 4294967295 → Lacks 10 (cert_line agent count)
count_lacks agent count low few = line_lacks (cert_words agent count) (cert_are agent count (omega (arith, low)) (number_is count few))

cert_given : (agent : ℕ) (tree : Tree) → agent ≤ 7 → IsCertificate tree → length (tree_lines tree) ≤ 4294967295 → length (cert_text tree) ≤ TEXT_BYTES → (number : ℕ) (rest : List ℕ) →
    (m : ℕ) × (cert_in agent (at number (agents_cert_text agent tree ++ rest)) ≡ Ok (tree, at m rest))
unfolding cert_in
cert_given agent tree low fits few short number rest =
    let line = cert_line agent (length (tree_lines tree)) in
    let after = cert_text tree ++ rest in
    let made : agents_cert_text agent tree ++ rest ≡ line ++ 10 ∷ after =
    ap (λ (t : List ℕ). t ++ rest) (flat_map-cons (λ l. l ++ 10 ∷ []) line (tree_lines tree) ∙ append_assoc line (10 ∷ []) (cert_text tree)) ∙ append_assoc line (10 ∷ cert_text tree) rest in
    let here = ap (at number) made ∙ next_at number line after (count_lacks agent (length (tree_lines tree)) low few) in
    let read = count_again agent (length (tree_lines tree)) low few in
    let block = block_found (tree_lines tree) (number + 1) rest (some_line tree) (tree_lines_lack 32 tree fits) in
    let cert = text_again (cert_text tree) tree fits short refl in
    (block.0, ap (cert_in agent) here ∙ rw (read, block.1, cert) refl)

-- ---- scores

-- a score of which the certificate's text is short enough to be read
pub record IsScore (agent : ℕ) (scored : Scored) : Type 0 where
  pub low : agent ≤ 7
  pub range : IsLoggedScore scored
  pub short : length (cert_text scored.tree) ≤ TEXT_BYTES

package_gives : (agent : ℕ) → agent ≤ 7 → GivesBytes (λ client. line_by (package_of agent client)) (λ client p. text_of (package_line agent client p ∷ [])) (λ client p. (client ≤ 7) × IsPackage p) Any
unfolding GivesBytes
package_gives agent low client p is number rest q =
    let line = package_line agent client p in
    (number + 1, whole_given (package_of agent client) line (text_of (line ∷ [])) p (sym (one_text line)) (package_lacks agent client p low is.0 is.1) (package_again agent client p low is.0 is.1) number rest)

are_packages : (from : ℕ) (ps : List Package) → from + length ps ≤ 8 → All IsPackage ps → AllFrom (λ client p. (client ≤ 7) × IsPackage p) from ps
are_packages from [] few all = tt
are_packages from (p ∷ ps) few all = ((omega (arith, few), All-head IsPackage p ps all), are_packages (from + 1) ps (omega (arith, few)) (All-tail IsPackage p ps all))

score_gives : GivesBytes score_in (λ agent scored. text_of (agent_lines agent scored)) IsScore Any
unfolding GivesBytes score_in
score_gives agent scored is number rest q =
    let low = is.low in
    let range = is.range in
    let packages = lines_of_parts (one_line (package_line agent)) 0 scored.allocation in
    let line = score_line agent scored in
    let after_packages = agents_cert_text agent scored.tree ++ rest in
    let after = text_of packages ++ after_packages in
    let made : text_of (agent_lines agent scored) ++ rest ≡ line ++ 10 ∷ after =
    ap (λ (t : List ℕ). t ++ rest) (flat_map-cons (λ l. l ++ 10 ∷ []) line (packages ++ (cert_line agent (length (tree_lines scored.tree)) ∷ tree_lines scored.tree)))
    ∙ append_assoc (line ++ 10 ∷ []) (text_of (packages ++ (cert_line agent (length (tree_lines scored.tree)) ∷ tree_lines scored.tree))) rest
    ∙ append_assoc line (10 ∷ []) (text_of (packages ++ (cert_line agent (length (tree_lines scored.tree)) ∷ tree_lines scored.tree)) ++ rest)
    ∙ ap (λ (t : List ℕ). line ++ 10 ∷ (t ++ rest)) (flat_map-append (λ l. l ++ 10 ∷ []) packages (cert_line agent (length (tree_lines scored.tree)) ∷ tree_lines scored.tree))
    ∙ ap (λ (t : List ℕ). line ++ 10 ∷ t) (append_assoc (text_of packages) (agents_cert_text agent scored.tree) rest) in
    let first = ap (λ (t : List ℕ). line_by (read_score agent) (at number t)) made
    ∙ line_given (read_score agent) number line after (scored.best, scored.cash, scored.short, scored.score) (score_lacks agent scored.best scored.cash scored.short scored.score low range.best range.cash range.short range.score)
    (score_again agent scored.best scored.cash scored.short scored.score low range.best range.cash range.short range.score) in
    let eight = range.eight in
    let all = repeat_given (λ client. line_by (package_of agent client)) (λ client p. text_of (package_line agent client p ∷ [])) (λ client p. (client ≤ 7) × IsPackage p) Any (package_gives agent low)
    (any_kept (λ client p. text_of (package_line agent client p ∷ [])) (λ client p. (client ≤ 7) × IsPackage p)) scored.allocation 0 (are_packages 0 scored.allocation (omega (arith, eight)) range.packages) (number + 1) after_packages tt in
    let second : repeat 8 0 (λ client. line_by (package_of agent client)) (at (number + 1) after) ≡ Ok (scored.allocation, at all.0 after_packages) =
    (λ i. repeat (sym eight i) 0 (λ client. line_by (package_of agent client)) (at (number + 1) (sym (parts_of_lines (one_line (package_line agent)) 0 scored.allocation) i ++ after_packages))) ∙ all.1 in
    let cert = cert_given agent scored.tree low range.certificate range.lines is.short all.0 rest in
    (cert.0, rw (first, second, cert.1) refl)

-- ---- the log

-- the certificates of a text that is short enough are short enough
short_scores : (from : ℕ) (scores : List Scored) (most : ℕ) → from + length scores ≤ 8 → All IsLoggedScore scores → length (bytes_of_parts (λ agent s. text_of (agent_lines agent s)) from scores) ≤ most → most ≤ TEXT_BYTES → AllFrom IsScore from scores
short_scores from [] most few all short le = tt
short_scores from (s ∷ ss) most few all short le =
    let both = length-append (text_of (agent_lines from s)) (bytes_of_parts (λ agent x. text_of (agent_lines agent x)) (from + 1) ss) in
    let packages = lines_of_parts (one_line (package_line from)) 0 s.allocation in
    let cert = cert_line from (length (tree_lines s.tree)) ∷ tree_lines s.tree in
    let first = ap length (flat_map-cons (λ l. l ++ 10 ∷ []) (score_line from s) (packages ++ cert)) in
    let whole = length-append (score_line from s ++ 10 ∷ []) (text_of (packages ++ cert)) in
    let two = ap length (flat_map-append (λ l. l ++ 10 ∷ []) packages cert) in
    let parts = length-append (text_of packages) (text_of cert) in
    let last = ap length (flat_map-cons (λ l. l ++ 10 ∷ []) (cert_line from (length (tree_lines s.tree))) (tree_lines s.tree)) in
    let lines = length-append (cert_line from (length (tree_lines s.tree)) ++ 10 ∷ []) (cert_text s.tree) in (
      record { low = omega (arith, few); range = All-head IsLoggedScore s ss all; short = omega (arith, short, le, both, first, whole, two, parts, last, lines) },
      short_scores (from + 1) ss most (omega (arith, few)) (All-tail IsLoggedScore s ss all) (omega (arith, short, both)) le,
    )

-- a log of which each certificate's text is short enough to be read
pub log_given_by : (log : LoggedGame) → IsLogged log → AllFrom IsScore 0 log.scores → log_in (at 1 (logged_text log)) ≡ Ok log
log_given_by log is each =
    let scores_bytes = bytes_of_parts (λ agent s. text_of (agent_lines agent s)) 0 log.scores in
    let last = codes "end" ++ 10 ∷ [] in
    let after_sheet = scores_bytes ++ last in
    let sheet = sheet_text log.scores in
    let eight = is.agents in
    let head = head_given log.head is.head 1 (histories_text log.histories log.cash ++ sheet_part log.scores) in
    let histories = histories_given log.histories log.cash is.goods is.histories is.few_cash is.cash head.0 (sheet_part log.scores) in
    let title : line_by (is_text (codes "sheet")) (at histories.1 (sheet_part log.scores)) ≡ Ok (tt, at (histories.1 + 1) after_sheet) =
    ap (λ (t : List ℕ). line_by (is_text (codes "sheet")) (at histories.1 t)) sheet ∙ text_given (codes "sheet") histories.1 after_sheet (lacks 10 (codes "sheet") refl) in
    let scores = repeat_given score_in (λ agent s. text_of (agent_lines agent s)) IsScore Any score_gives (any_kept (λ agent s. text_of (agent_lines agent s)) IsScore) log.scores 0 each (histories.1 + 1) last tt in
    let agents : repeat 8 0 score_in (at (histories.1 + 1) after_sheet) ≡ Ok (log.scores, at scores.0 last) = ap (λ (n : ℕ). repeat n 0 score_in (at (histories.1 + 1) after_sheet)) (sym eight) ∙ scores.1 in
    let end : line_by (is_text (codes "end")) (at scores.0 last) ≡ Ok (tt, at (scores.0 + 1) []) =
    ap (λ (t : List ℕ). line_by (is_text (codes "end")) (at scores.0 t)) (sym (append-nil last)) ∙ text_given (codes "end") scores.0 [] (lacks 10 (codes "end") refl) in
    whole_log (at 1 (logged_text log)) (is_read _ _ head.1) (is_read _ _ histories.2) (is_read _ _ histories.3) (sym title) (is_read _ _ agents) (sym end) tt refl

pub log_given : (log : LoggedGame) → IsLogged log → length (logged_text log) ≤ TEXT_BYTES → log_in (at 1 (logged_text log)) ≡ Ok log
log_given log is short =
    let scores_bytes = bytes_of_parts (λ agent s. text_of (agent_lines agent s)) 0 log.scores in
    let last = codes "end" ++ 10 ∷ [] in
    let one = length-append (first_lines log.head) (histories_text log.histories log.cash ++ sheet_part log.scores) in
    let two = length-append (histories_text log.histories log.cash) (sheet_part log.scores) in
    let three = ap length (sheet_text log.scores) in
    let four = length-append (codes "sheet" ++ 10 ∷ []) (scores_bytes ++ last) in
    let five = length-append scores_bytes last in
    let few : length scores_bytes ≤ length (logged_text log) = omega (arith, one, two, three, four, five) in
    let eight = is.agents in
    log_given_by log is (short_scores 0 log.scores (length (logged_text log)) (omega (arith, eight)) is.scores few short)
