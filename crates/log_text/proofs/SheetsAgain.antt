-- A sheet is determined by its text, whatever follows it.
use Rattle.std.proofs.Common.{◌≡◌, ℕ, ◌+◌, ◌^◌, ◌<◌, ◌≤◌, List, [], ◌∷◌, ◌++◌, append_assoc, length, map, get_or, refl, sym, ap, ◌∙◌, arith, ℤ, pos, decimal, codes, unsigned_abs, slice_index, length-append}
use Rattle.std.specs.Fmt.{signed_decimal}
use Rattle.std.specs.List.{AllByRecursion, join_with_byte}
use Rattle.log_text.specs.{text_of, lines_of_parts, one_line, Package, None, Trip, tree_lines, Tree, ClosedGame, Scored, Head, IsNumber, IsSigned, HaveOwnLogs, IsShownPackage, IsKnownScore, IsShownScore, IsShownSheet, score_line, package_line, cert_line, agent_lines, sheet_part}
use Rattle.log_text.proofs.Cuts.{IsWord, row, row_same, number_word}
use Rattle.log_text.proofs.Trades.{known_word}
use Rattle.std.proofs.lemmas.List.{append_cancel_left, length-map}
use Rattle.std.proofs.lemmas.List.Concat.{flat_map-cons}
use Rattle.log_text.proofs.Histories.{signed_are, parts_same}
use Rattle.log_text.proofs.TreesCut.{text_cons, text_both, numbers_same, tree_same}

abbrev ended : List ℕ → List ℕ
ended line = line ++ 10 ∷ []

abbrev number_at : List ℤ → ℕ → ℕ
number_at zs i = unsigned_abs (get_or zs i (pos 0))

small : (n : ℕ) → n < 9 → n < 2 ^ 64
small n low = omega (arith, low)

-- ---- packages

pub is_word_package : IsWord (codes "package")
is_word_package = known_word (codes "package") refl refl

abbrev pub none_words : ℕ → ℕ → List (List ℕ)
none_words agent client = codes "package" ∷ decimal agent ∷ decimal client ∷ codes "none" ∷ []

pub none_line : (agent client : ℕ) → package_line agent client None ≡ join_with_byte 32 (none_words agent client)
none_line agent client = simp append_assoc

pub none_are : (agent client : ℕ) → agent < 9 → client < 9 → AllByRecursion IsWord (none_words agent client)
none_are agent client low low' = (is_word_package, (number_word agent (small agent low), (number_word client (small client low'), (known_word (codes "none") refl refl, tt))))

abbrev pub trip_numbers : ℕ → ℕ → ℕ → ℕ → ℕ → List ℕ → List ℤ
trip_numbers agent client hotel arrive depart nights =
    pos agent ∷ pos client ∷ pos hotel ∷ pos arrive ∷ pos depart ∷ pos (slice_index nights 0) ∷ pos (slice_index nights 1) ∷ pos (slice_index nights 2) ∷ []

-- three nights, one by one
pub three_nights : (nights : List ℕ) → length nights ≡ 3 → nights ≡ slice_index nights 0 ∷ slice_index nights 1 ∷ slice_index nights 2 ∷ []
three_nights [] n = absurd (omega (arith, n))
three_nights (a ∷ []) n = absurd (omega (arith, n))
three_nights (a ∷ b ∷ []) n = absurd (omega (arith, n))
three_nights (a ∷ b ∷ c ∷ []) n = refl
three_nights (a ∷ b ∷ c ∷ d ∷ nights) n = absurd (omega (arith, n))

pub trip_are : (agent client hotel arrive depart : ℕ) (nights : List ℕ) → agent < 9 → client < 9 → IsShownPackage (Trip hotel arrive depart nights) → AllByRecursion IsSigned (trip_numbers agent client hotel arrive depart nights)
trip_are agent client hotel arrive depart nights low low' h =
    let all = h.3 in
    (small agent low, (small client low', (h.0, (h.1, (h.2, (all.first, (all.second, (all.third, tt))))))))

pub not_none : (agent client : ℕ) (numbers : List ℤ) (us vs : List ℕ) → agent < 9 → client < 9 → length numbers ≡ 8 → AllByRecursion IsWord (codes "package" ∷ map signed_decimal numbers) →
    ended (package_line agent client None) ++ us ≡ row (codes "package" ∷ map signed_decimal numbers) ++ vs → ⊥
not_none agent client numbers us vs low low' eight are e =
    let cut = row_same (codes "package") (codes "package") (decimal agent ∷ decimal client ∷ codes "none" ∷ []) (map signed_decimal numbers) us vs (none_are agent client low low') are
    (sym (ap (λ (line : List ℕ). ended line ++ us) (none_line agent client)) ∙ e) in
    let long : 4 ≡ length (codes "package" ∷ map signed_decimal numbers) = ap (λ (ws : List (List ℕ)). length ws) cut.0 in
    omega (arith, long, length-map numbers signed_decimal, eight)

package_same : (agent client : ℕ) (p q : Package) (us vs : List ℕ) → agent < 9 → client < 9 → IsShownPackage p → IsShownPackage q →
    ended (package_line agent client p) ++ us ≡ ended (package_line agent client q) ++ vs → (p ≡ q) × (us ≡ vs)
package_same agent client None None us vs low low' h k e = (refl, append_cancel_left (ended (package_line agent client None)) us vs e)
package_same agent client None (Trip hotel arrive depart nights) us vs low low' h k e =
    absurd (not_none agent client (trip_numbers agent client hotel arrive depart nights) us vs low low' refl (is_word_package, signed_are (trip_numbers agent client hotel arrive depart nights) (trip_are agent client hotel arrive depart nights low low' k)) e)
package_same agent client (Trip hotel arrive depart nights) None us vs low low' h k e =
    absurd (not_none agent client (trip_numbers agent client hotel arrive depart nights) vs us low low' refl (is_word_package, signed_are (trip_numbers agent client hotel arrive depart nights) (trip_are agent client hotel arrive depart nights low low' h)) (sym e))
package_same agent client (Trip hotel arrive depart nights) (Trip hotel' arrive' depart' nights') us vs low low' h k e =
    let cut = numbers_same (codes "package") (trip_numbers agent client hotel arrive depart nights) (trip_numbers agent client hotel' arrive' depart' nights') us vs is_word_package
    (trip_are agent client hotel arrive depart nights low low' h) (trip_are agent client hotel' arrive' depart' nights' low low' k) e in
    let at : (i : ℕ) → number_at (trip_numbers agent client hotel arrive depart nights) i ≡ number_at (trip_numbers agent client hotel' arrive' depart' nights') i = λ i. ap (λ (zs : List ℤ). number_at zs i) cut.0 in
    let same : nights ≡ nights' = three_nights nights h.3.count ∙ ((λ i. at 5 i ∷ at 6 i ∷ at 7 i ∷ []) ∙ sym (three_nights nights' k.3.count)) in
    ((λ i. Trip (at 2 i) (at 3 i) (at 4 i) (same i)), cut.1)

abbrev package_lines : ℕ → ℕ → List Package → List (List ℕ)
package_lines agent from ps = lines_of_parts (one_line (package_line agent)) from ps

packages_same : (agent from : ℕ) (ps qs : List Package) (us vs : List ℕ) → agent < 9 → from + length ps ≤ 8 → length ps ≡ length qs → AllByRecursion IsShownPackage ps → AllByRecursion IsShownPackage qs →
    text_of (package_lines agent from ps) ++ us ≡ text_of (package_lines agent from qs) ++ vs → (ps ≡ qs) × (us ≡ vs)
packages_same agent from [] [] us vs low few n h k e = (refl, e)
packages_same agent from [] (q ∷ qs) us vs low few n h k e = absurd (omega (arith, n))
packages_same agent from (p ∷ ps) [] us vs low few n h k e = absurd (omega (arith, n))
packages_same agent from (p ∷ ps) (q ∷ qs) us vs low few n h k e =
    let first = package_same agent from p q (text_of (package_lines agent (from + 1) ps) ++ us) (text_of (package_lines agent (from + 1) qs) ++ vs) low (omega (arith, few)) h.0 k.0
    (sym (text_cons (package_line agent from p) (package_lines agent (from + 1) ps) us) ∙ e ∙ text_cons (package_line agent from q) (package_lines agent (from + 1) qs) vs) in
    let others = packages_same agent (from + 1) ps qs us vs low (omega (arith, few)) (omega (arith, n)) h.1 k.1 first.1 in
    ((λ i. first.0 i ∷ others.0 i), others.1)

-- ---- the count of a certificate's lines

abbrev pub cert_words : ℕ → ℕ → List (List ℕ)
cert_words agent count = codes "cert" ∷ decimal agent ∷ decimal count ∷ []

cert_row : (agent count : ℕ) → ended (cert_line agent count) ≡ row (cert_words agent count)
cert_row agent count = simp append_assoc

pub cert_are : (agent count : ℕ) → agent < 9 → IsNumber count → AllByRecursion IsWord (cert_words agent count)
cert_are agent count low h = (known_word (codes "cert") refl refl, (number_word agent (small agent low), (number_word count h, tt)))

cert_same : (agent count other : ℕ) (us vs : List ℕ) → agent < 9 → IsNumber count → IsNumber other → ended (cert_line agent count) ++ us ≡ ended (cert_line agent other) ++ vs → us ≡ vs
cert_same agent count other us vs low h k e =
    (row_same (codes "cert") (codes "cert") (decimal agent ∷ decimal count ∷ []) (decimal agent ∷ decimal other ∷ []) us vs
    (cert_are agent count low h) (cert_are agent other low k)
    (sym (ap (λ (line : List ℕ). line ++ us) (cert_row agent count)) ∙ e ∙ ap (λ (line : List ℕ). line ++ vs) (cert_row agent other))).1

-- ---- an agent

abbrev score_numbers : ℕ → Scored → List ℤ
score_numbers agent s = pos agent ∷ pos s.best ∷ s.cash ∷ pos s.short ∷ s.score ∷ []

agent_parts : (agent : ℕ) (s : Scored) (rest : List ℕ) → text_of (agent_lines agent s) ++ rest
    ≡ ended (score_line agent s) ++ (text_of (package_lines agent 0 s.allocation) ++ (ended (cert_line agent (length (tree_lines s.tree))) ++ (text_of (tree_lines s.tree) ++ rest)))
agent_parts agent s rest =
    text_cons (score_line agent s) (package_lines agent 0 s.allocation ++ (cert_line agent (length (tree_lines s.tree)) ∷ tree_lines s.tree)) rest
    ∙ ap (λ (text : List ℕ). ended (score_line agent s) ++ text)
    (text_both (package_lines agent 0 s.allocation) (cert_line agent (length (tree_lines s.tree)) ∷ tree_lines s.tree) rest
    ∙ ap (λ (text : List ℕ). text_of (package_lines agent 0 s.allocation) ++ text) (text_cons (cert_line agent (length (tree_lines s.tree))) (tree_lines s.tree) rest))

made : ℕ → ℤ → ℕ → ℤ → List Package → Tree → Scored
made best cash short score allocation tree = record { best = best; cash = cash; short = short; score = score; allocation = allocation; tree = tree }

agent_same : (agent : ℕ) (s t : Scored) (us vs : List ℕ) → agent < 9 → IsShownScore s → IsShownScore t → text_of (agent_lines agent s) ++ us ≡ text_of (agent_lines agent t) ++ vs → (s ≡ t) × (us ≡ vs)
unfolding made
agent_same agent s t us vs low h k e =
    let numbers = numbers_same (codes "score") (score_numbers agent s) (score_numbers agent t) _ _ (known_word (codes "score") refl refl)
    (small agent low, (h.known.best, (h.known.cash, (h.known.short, (h.known.score, tt))))) (small agent low, (k.known.best, (k.known.cash, (k.known.short, (k.known.score, tt)))))
    (sym (agent_parts agent s us) ∙ e ∙ agent_parts agent t vs) in
    let best : s.best ≡ t.best = ap (λ (zs : List ℤ). number_at zs 1) numbers.0 in
    let cash : s.cash ≡ t.cash = ap (λ (zs : List ℤ). get_or zs 2 (pos 0)) numbers.0 in
    let short : s.short ≡ t.short = ap (λ (zs : List ℤ). number_at zs 3) numbers.0 in
    let score : s.score ≡ t.score = ap (λ (zs : List ℤ). get_or zs 4 (pos 0)) numbers.0 in
    let packages = packages_same agent 0 s.allocation t.allocation _ _ low (omega (arith, h.known.eight)) (h.known.eight ∙ sym k.known.eight) h.known.packages k.known.packages numbers.1 in
    let after = cert_same agent (length (tree_lines s.tree)) (length (tree_lines t.tree)) _ _ low h.lines k.lines packages.1 in
    let trees = tree_same 32 s.tree t.tree us vs h.known.certificate k.known.certificate after in
    ((λ i. made (best i) (cash i) (short i) (score i) (packages.0 i) (trees.0 i)), trees.1)

agents_same : (from : ℕ) (ss ts : List Scored) (us vs : List ℕ) → from + length ss ≤ 8 → length ss ≡ length ts → AllByRecursion IsShownScore ss → AllByRecursion IsShownScore ts →
    text_of (lines_of_parts agent_lines from ss) ++ us ≡ text_of (lines_of_parts agent_lines from ts) ++ vs → (ss ≡ ts) × (us ≡ vs)
agents_same from [] [] us vs few n h k e = (refl, e)
agents_same from [] (t ∷ ts) us vs few n h k e = absurd (omega (arith, n))
agents_same from (s ∷ ss) [] us vs few n h k e = absurd (omega (arith, n))
agents_same from (s ∷ ss) (t ∷ ts) us vs few n h k e =
    let first = agent_same from s t (text_of (lines_of_parts agent_lines (from + 1) ss) ++ us) (text_of (lines_of_parts agent_lines (from + 1) ts) ++ vs) (omega (arith, few)) h.0 k.0
    (sym (text_both (agent_lines from s) (lines_of_parts agent_lines (from + 1) ss) us) ∙ e ∙ text_both (agent_lines from t) (lines_of_parts agent_lines (from + 1) ts) vs) in
    let others = agents_same (from + 1) ss ts us vs (omega (arith, few)) (omega (arith, n)) h.1 k.1 first.1 in
    ((λ i. first.0 i ∷ others.0 i), others.1)

-- ---- the second part, and the whole log

sheet_parts : (sheet : List Scored) (rest : List ℕ) → sheet_part sheet ++ rest ≡ ended (codes "sheet") ++ (text_of (lines_of_parts agent_lines 0 sheet) ++ (ended (codes "end") ++ rest))
sheet_parts sheet rest =
    text_cons (codes "sheet") (lines_of_parts agent_lines 0 sheet ++ codes "end" ∷ []) rest
    ∙ ap (λ (text : List ℕ). ended (codes "sheet") ++ text)
    (text_both (lines_of_parts agent_lines 0 sheet) (codes "end" ∷ []) rest ∙ ap (λ (text : List ℕ). text_of (lines_of_parts agent_lines 0 sheet) ++ text) (text_cons (codes "end") [] rest))

pub sheet_same : (sheet other : List Scored) (rest other_rest : List ℕ) → IsShownSheet sheet → IsShownSheet other → sheet_part sheet ++ rest ≡ sheet_part other ++ other_rest → (sheet ≡ other) × (rest ≡ other_rest)
sheet_same sheet other rest other_rest h k e =
    let agents = append_cancel_left (ended (codes "sheet")) _ _ (sym (sheet_parts sheet rest) ∙ e ∙ sheet_parts other other_rest) in
    let same = agents_same 0 sheet other (ended (codes "end") ++ rest) (ended (codes "end") ++ other_rest) (omega (arith, h.count)) (h.count ∙ sym k.count) h.scores k.scores agents in
    (same.0, append_cancel_left (ended (codes "end")) rest other_rest same.1)

pub log_same : (head other_head : Head) (game other : ClosedGame) (sheet other_sheet : List Scored) → HaveOwnLogs head other_head game other sheet other_sheet
log_same head other_head game other sheet other_sheet = λ n o h k l m e.
    let first = parts_same head other_head game other (sheet_part sheet) (sheet_part other_sheet) n o h k e in
    let second = sheet_same sheet other_sheet [] [] l m (ap (λ (text : List ℕ). text ++ []) first.2) in
    (first.0, first.1, second.0)

-- ---- a sheet whose text is short enough has certificates whose lines can be counted

pub lines_short : (lines : List (List ℕ)) → length lines ≤ length (text_of lines)
lines_short [] = omega arith
lines_short (line ∷ lines) =
    let cons = ap (λ (text : List ℕ). length text) (flat_map-cons ended line lines) in
    omega (arith, lines_short lines, cons, length-append (ended line) (text_of lines), length-append line (10 ∷ []))

pub agent_long : (agent : ℕ) (s : Scored) → length (tree_lines s.tree) ≤ length (agent_lines agent s)
agent_long agent s = omega (arith, length-append (package_lines agent 0 s.allocation) (cert_line agent (length (tree_lines s.tree)) ∷ tree_lines s.tree))

scores_shown : (from : ℕ) (ss : List Scored) → length (lines_of_parts agent_lines from ss) < 2 ^ 64 → AllByRecursion IsKnownScore ss → AllByRecursion IsShownScore ss
scores_shown from [] few h = tt
scores_shown from (s ∷ ss) few h =
    let both = length-append (agent_lines from s) (lines_of_parts agent_lines (from + 1) ss) in
    (record { known = h.0; lines = omega (arith, few, both, agent_long from s) }, scores_shown (from + 1) ss (omega (arith, few, both)) h.1)

pub shown_of : (sheet : List Scored) → length (sheet_part sheet) < 2 ^ 64 → length sheet ≡ 8 → AllByRecursion IsKnownScore sheet → IsShownSheet sheet
shown_of sheet few eight h =
    let inner = length-append (lines_of_parts agent_lines 0 sheet) (codes "end" ∷ []) in
    record { count = eight; scores = scores_shown 0 sheet (omega (arith, few, lines_short (codes "sheet" ∷ [] ++ (lines_of_parts agent_lines 0 sheet ++ codes "end" ∷ [])), inner)) h }
