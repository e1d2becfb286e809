-- The reader of logs goes from line to line, except for the block of a certificate.
use Rattle.std.proofs.Common.{◌≡◌, ℕ, ◌+◌, ◌<◌, ◌≤◌, inl, inr, Bool, true, false, not, ◌&&◌, eqb, cond, List, [], ◌∷◌, ◌++◌, Option, Some, None, Result, Ok, Err, refl, sym, ap, subst, ◌∙◌, arith, lit≤, lit<, pos, codes, decimal, replicate, ◌==◌, eq-eqb}
use Rattle.std.proofs.lemmas.Fmt.{decimal_digit}
use Rattle.reading_laws.specs.Prelude.{TEXT_BYTES, numeral, BadLine, TextEnd, Spelling, NumberedLine, Remaining, block_of, row, ◌>>=◌, repeat, words_of, CertFault, cert_of, cert_text, Tree, leaf, Play, Serve, package_line, formed, is_text, read_link, read_end, read_missed, first_is, auction_of, trade_of, read_entry, read_cash_line, cash_entry_of, read_score, package_of, read_count, line_by, as_long_as, is_served, served_in, head_by, head_in, entry_in, history_in, cash_in, cert_by, block_by, cert_in, score_in, log_in}
use Rattle.tac_base.specs.declared.calls.Call.TheVariants as calls
use Rattle.tac_base.specs.declared.calls.Reply.TheVariants as replies
use Rattle.tac_base.proofs.Signed.{decimal_lacks}
use Rattle.trade_ledger.specs.declared.cash_calls.CashCall.TheVariants.{Read}
use Rattle.trade_ledger.specs.declared.cash_calls.CashReply.TheVariants.{Cash}
use Rattle.trade_ledger.specs.declared.cash_calls.CashEntry.{CashEntry}
use Rattle.text_forms.proofs.PrintedLines.{lacks_from, join_lacks}
use Rattle.text_forms.proofs.Reading.{ok_is}
use Rattle.packages.specs.declared.travel_packages.Package.TheVariants as packages
use Rattle.bound_cert.specs.declared.faults.CertFault.TheVariants as certs
use Rattle.bound_cert.proofs.TreesAgain.{text_again}
use Rattle.log_text.proofs.Cuts.{line_lacks, line_words}
use Rattle.log_text.proofs.Trades.{auction_words, auction_are}
use Rattle.log_reader.proofs.EntryFormLaws.{auction_again, auction_body, entry_again, entry_body, cash_again, cash_body}
use Rattle.log_reader.proofs.CashFormLaws.{cash_entry_again, cash_entry_body}
use Rattle.log_reader.proofs.SheetFormLaws.{score_body, score_again, score_lacks, package_again, package_lacks, count_again, count_is, count_body}
use Rattle.reading_laws.proofs.Steady.{Step, IsPlain, onto, bytes_of, any_line, Steady, Completes, Outcome, ReadsLine, steady_then, steady_done, Closes, closes_then}
use Rattle.reading_laws.proofs.LineSteps.{IsBadAt, line_goes_on, line_reads, parts_go_on, text_ends}
use Rattle.reading_laws.proofs.Runs.{run_goes_on, closes_after_line}
use Rattle.reading_laws.proofs.Blocks.{next_block}

-- ---- where a certificate is refused

-- the next line says how long a certificate is, and the lines after it are none; one of the same agent with one line would have been read
pub record BadBlock (left : Remaining) (bad : BadLine) (start : List (List ℕ)) : Type 0 where
  pub agent : ℕ
  pub low : agent ≤ 7
  pub count : ℕ
  pub line : NumberedLine
  pub lines : List NumberedLine
  pub left_is : left.lines ≡ line ∷ lines
  pub said : line.bytes ≡ count_body agent count
  pub few : count ≤ 4294967295
  pub others : List (List ℕ)
  pub due : start ≡ count_body agent 1 ∷ others
  pub refused : block_by line.number (block_of count (record left { lines = lines })) ≡ Err bad

-- a line at which no run of links, ends or trades goes on
abbrev pub is_calm : List ℕ → Bool
is_calm line = not (first_is (codes "link") (words_of line)) && (not (first_is (codes "end") (words_of line)) && not (first_is (codes "trade") (words_of line)))

abbrev Quiet : (line : List ℕ) → Type 0
Quiet line = (first_is (codes "link") (words_of line) ≡ false) × (first_is (codes "end") (words_of line) ≡ false) × (first_is (codes "trade") (words_of line) ≡ false)

all_not : (a b c : Bool) → not a && (not b && not c) ≡ true → (a ≡ false) × (b ≡ false) × (c ≡ false)
all_not false false false h = (refl, refl, refl)
all_not false false true h = absurd cc
all_not false true c h = absurd cc
all_not true b c h = absurd cc

quiet : (line : List ℕ) → is_calm line ≡ true → Quiet line
quiet line h = all_not (first_is (codes "link") (words_of line)) (first_is (codes "end") (words_of line)) (first_is (codes "trade") (words_of line)) h

-- ---- steps before the sheet, and in it

abbrev Calmly : {A : Type 0} → Step A BadLine → Type 0
Calmly step = Steady IsBadAt is_calm BadBlock step

abbrev Anyhow : {A : Type 0} → Step A BadLine → Type 0
Anyhow step = Steady IsBadAt any_line BadBlock step

form_read : {A : Type 0} (form : List ℕ → Option A) (text : List ℕ) (value : A) → form text ≡ Some value → formed (form text) ≡ Ok value
form_read form text value h = ap formed h

calm_line : {A : Type 0} (form : List ℕ → Option A) (text : List ℕ) (value : A) → IsPlain text → is_calm text ≡ true → form text ≡ Some value → Calmly (λ left. line_by form left)
calm_line form text value plain calm read = line_goes_on is_calm BadBlock (λ line. formed (form line)) text value plain calm (form_read form text value read)

any_form : {A : Type 0} (form : List ℕ → Option A) (text : List ℕ) (value : A) → IsPlain text → form text ≡ Some value → Anyhow (λ left. line_by form left)
any_form form text value plain read = line_goes_on any_line BadBlock (λ line. formed (form line)) text value plain refl (form_read form text value read)

abbrev then_calmly : {A B : Type 0} (step : Step A BadLine) (next : A → Step B BadLine) → Calmly step → ((a : A) → Calmly (next a)) → Calmly (λ l. step l >>= λ x. next x.0 x.1)
then_calmly step next s each = steady_then IsBadAt is_calm BadBlock step next s each

abbrev then_anyhow : {A B : Type 0} (step : Step A BadLine) (next : A → Step B BadLine) → Anyhow step → ((a : A) → Anyhow (next a)) → Anyhow (λ l. step l >>= λ x. next x.0 x.1)
then_anyhow step next s each = steady_then IsBadAt any_line BadBlock step next s each

-- ---- the head

title_calmly : Calmly (λ left. line_by (is_text (codes "taclog 1")) left)
title_calmly = calm_line (is_text (codes "taclog 1")) (codes "taclog 1") tt (record { lacks = lacks_from 10 (codes "taclog 1") refl; kept = refl }) refl refl

missed_read : read_missed (codes "missed 0") ≡ Some 0
unfolding read_missed row numeral
missed_read = refl

served_calmly : Calmly served_in
served_calmly =
    then_calmly (as_long_as (codes "link") (λ place. line_by (read_link place)) 255 0) _ (run_goes_on is_calm BadBlock (codes "link") (λ line h. (quiet line h).0) read_link 255 0) (λ links.
    then_calmly (as_long_as (codes "end") (λ _. line_by read_end) TEXT_BYTES 0) _ (run_goes_on is_calm BadBlock (codes "end") (λ line h. (quiet line h).1) (λ _. read_end) TEXT_BYTES 0) (λ ends.
    then_calmly (λ left. line_by read_missed left) _ (calm_line read_missed (codes "missed 0") 0 (record { lacks = lacks_from 10 (codes "missed 0") refl; kept = refl }) refl missed_read) (λ missed.
    steady_done IsBadAt is_calm BadBlock (Serve links ends missed))))

head_by_calmly : (served : Bool) → Calmly (head_by served)
head_by_calmly false = steady_done IsBadAt is_calm BadBlock Play
head_by_calmly true = served_calmly

head_calmly : Calmly head_in
unfolding head_in
head_calmly =
    then_calmly (λ left. line_by (is_text (codes "taclog 1")) left) _ title_calmly (λ title.
    then_calmly (λ left. line_by is_served left) (λ served left. head_by served left) (calm_line is_served (codes "play") false (record { lacks = lacks_from 10 (codes "play") refl; kept = refl }) refl refl) head_by_calmly)

-- ---- the histories

zero_digit : decimal 0 ≡ 48 ∷ []
zero_digit = decimal_digit 0 (lit< tt)

entry_read : read_entry (codes "0 own = done") ≡ Some (0, calls.Own, replies.Done)
entry_read = let text : codes "0 own = done" ≡ entry_body 0 calls.Own replies.Done = rw zero_digit refl in ap read_entry text ∙ entry_again 0 calls.Own replies.Done (lit≤ tt) tt tt

cash_read : read_cash_line (codes "cash 0") ≡ Some 0
cash_read = let text : codes "cash 0" ≡ cash_body 0 = rw zero_digit refl in ap read_cash_line text ∙ cash_again 0 (lit≤ tt)

abbrev no_dollars : CashEntry
no_dollars = record { caller = 0; call = Read 0; reply = Cash (pos 0) }

reading_read : cash_entry_of (codes "0 read = 0") ≡ Some no_dollars
reading_read = let text : codes "0 read = 0" ≡ cash_entry_body no_dollars = rw zero_digit refl in ap cash_entry_of text ∙ cash_entry_again no_dollars (lit≤ tt, refl, lit< tt)

entry_calmly : (good : ℕ) → Calmly (entry_in good)
unfolding entry_in
entry_calmly good =
    then_calmly (λ left. line_by read_entry left) _ (calm_line read_entry (codes "0 own = done") (0, calls.Own, replies.Done) (record { lacks = lacks_from 10 (codes "0 own = done") refl; kept = refl }) refl entry_read) (λ line.
    then_calmly (as_long_as (codes "trade") (λ _. line_by (trade_of good)) 128 0) _ (run_goes_on is_calm BadBlock (codes "trade") (λ line h. (quiet line h).2) (λ _. trade_of good) 128 0) (λ trades.
    steady_done IsBadAt is_calm BadBlock (record { caller = line.0; call = line.1; reply = line.2; trades = trades })))

-- the line of an auction without entries
auction_plain : (good : ℕ) → good ≤ 27 → IsPlain (auction_body good 0)
auction_plain good low = record { lacks = line_lacks (auction_words good 0) (auction_are good 0 (omega (arith, low)) (lit< tt)); kept = refl }

auction_calm : (good : ℕ) → good ≤ 27 → is_calm (auction_body good 0) ≡ true
auction_calm good low =
    let words : words_of (auction_body good 0) ≡ codes "auction" ∷ decimal good ∷ decimal 0 ∷ [] =
    line_words (codes "auction") (decimal good ∷ decimal 0 ∷ []) (auction_are good 0 (omega (arith, low)) (lit< tt)) in
    ap (λ (ws : List (List ℕ)). not (first_is (codes "link") ws) && (not (first_is (codes "end") ws) && not (first_is (codes "trade") ws))) words

history_calmly : (good : ℕ) → good < 28 → Calmly (history_in good)
unfolding history_in
history_calmly good low =
    then_calmly (λ left. line_by (auction_of good) left) (λ count left. repeat count 0 (λ _. entry_in good) left) (calm_line (auction_of good) (auction_body good 0) 0 (auction_plain good (omega (arith, low))) (auction_calm good (omega (arith, low))) (auction_again good 0 (omega (arith, low)) (lit≤ tt)))
    (λ count. parts_go_on is_calm BadBlock (λ _. entry_in good) count (λ i less. entry_calmly good) count 0 (omega arith))

cash_calmly : Calmly cash_in
unfolding cash_in
cash_calmly =
    let reading = codes "0 read = 0" in
    then_calmly (λ left. line_by read_cash_line left) (λ count left. repeat count 0 (λ _. line_by cash_entry_of) left) (calm_line read_cash_line (codes "cash 0") 0 (record { lacks = lacks_from 10 (codes "cash 0") refl; kept = refl }) refl cash_read)
    (λ count. parts_go_on is_calm BadBlock (λ _. line_by cash_entry_of) count (λ i less. calm_line cash_entry_of reading no_dollars (record { lacks = lacks_from 10 reading refl; kept = refl }) refl reading_read) count 0 (omega arith))

-- ---- certificates

abbrev zero_leaf : List ℕ
zero_leaf = codes "leaf 0 0 0 0 0 0 0 0 0 0 0 0 0 0 0 0 0 0 0 0 0 0 0 0 0 0 0 0"

abbrev zeros : List ℕ
zeros = replicate 28 0

zero_spelling : zero_leaf ++ 10 ∷ [] ≡ cert_text (leaf zeros)
zero_spelling = rw zero_digit refl

one_leaf : cert_of (zero_leaf ++ 10 ∷ []) ≡ Ok (leaf zeros)
one_leaf = text_again (zero_leaf ++ 10 ∷ []) (leaf zeros) refl (lit≤ tt) zero_spelling

module _ (agent : ℕ) (low : agent ≤ 7) where
  abbrev least : List (List ℕ)
  least = count_body agent 1 ∷ zero_leaf ∷ []

  least_plain : IsPlain (count_body agent 1)
  least_plain = record { lacks = join_lacks 10 (codes "cert" ∷ decimal agent ∷ decimal 1 ∷ []) refl (lacks_from 10 (codes "cert") refl, (decimal_lacks 10 agent (lit< tt) (omega (arith, low)), (decimal_lacks 10 1 (lit< tt) (lit< tt), tt))); kept = refl }

  least_read : (lines : List NumberedLine) → bytes_of lines ≡ least → (other : Remaining) → cert_in agent (onto lines other) ≡ Ok (leaf zeros, other)
  unfolding cert_in
  least_read [] h other = absurd cc
  least_read (line ∷ []) h other = absurd cc
  least_read (line ∷ node ∷ []) h other =
      let first : line.bytes ≡ count_body agent 1 = cc in
      let second : node.bytes ≡ zero_leaf = cc in
      let said : read_count agent line.bytes ≡ Some 1 = ap (read_count agent) first ∙ count_again agent 1 low (lit≤ tt) in
      let here : eqb node.number node.number ≡ true = eq-eqb node.number node.number refl in
      let cert : cert_of (node.bytes ++ 10 ∷ []) ≡ Ok (leaf zeros) = ap (λ (b : List ℕ). cert_of (b ++ 10 ∷ [])) second ∙ one_leaf in
      rw (said, here, cert) refl
  least_read (line ∷ node ∷ more ∷ lines) h other = absurd cc

  cert_start : Completes IsBadAt any_line BadBlock (cert_in agent) [] least
  cert_start = record {
    value = leaf zeros;
    plain = (least_plain, (record { lacks = lacks_from 10 zero_leaf refl; kept = refl }, tt));
    calm = refl;
    reads = λ lines h other calm. least_read lines h other;
  }

  abbrev Ends_so : Remaining → Type 0
  Ends_so left = Outcome IsBadAt any_line BadBlock (cert_in agent) left (cert_in agent left)

  -- a line that says no count
  pub no_count : (line : NumberedLine) (other : Remaining) → read_count agent line.bytes ≡ None → cert_in agent (onto (line ∷ []) other) ≡ Err (record { line = line.number; reason = Spelling })
  unfolding cert_in
  no_count line other h = rw h refl

  -- a line that says one
  pub counted : (line : NumberedLine) (count : ℕ) (other : Remaining) → read_count agent line.bytes ≡ Some count → cert_in agent (onto (line ∷ []) other) ≡ block_by line.number (block_of count other)
  unfolding cert_in
  counted line count other h = rw h refl

  -- a block that was read as a tree
  pub record ReadBlock (number count : ℕ) (after : Remaining) (x : Tree × Remaining) : Type 0 where
    pub block : List ℕ × Remaining
    pub found : block_of count after ≡ Some block
    pub tree : cert_of block.0 ≡ Ok x.0
    pub rest : block.1 ≡ x.1

  abbrev with_rest : Remaining → Result Tree BadLine → Result (Tree × Remaining) BadLine
  with_rest rest read = read >>= λ tree. Ok (tree, rest)

  no_tree : (number : ℕ) (rest : Remaining) (x : Tree × Remaining) (fault : CertFault) → with_rest rest (cert_by number (Err fault)) ≡ Ok x → ⊥
  no_tree number rest x (certs.Line line reason) h = by_reason (reason == 7) h where
    by_reason : (ended : Bool) → with_rest rest (cond ended (Err (record { line = number; reason = TextEnd })) (Err (record { line = number + line; reason = TextEnd }))) ≡ Ok x → ⊥
    by_reason true k = absurd cc
    by_reason false k = absurd cc
  no_tree number rest x certs.TooLong h = absurd cc
  no_tree number rest x certs.Memory h = absurd cc

  by_cert : (number count : ℕ) (after : Remaining) (x : Tree × Remaining) (b : List ℕ × Remaining) → block_of count after ≡ Some b → (c : Result Tree CertFault) → cert_of b.0 ≡ c → with_rest b.1 (cert_by number c) ≡ Ok x → ReadBlock number count after x
  by_cert number count after x b h (Ok tree) e i =
      let same : (tree, b.1) ≡ x = ok_is {E = BadLine} (tree, b.1) x i in
      record { block = b; found = h; tree = e ∙ ap (λ (r : Tree × Remaining). Ok r.0) same; rest = ap (λ (r : Tree × Remaining). r.1) same }
  by_cert number count after x b h (Err fault) e i = absurd (no_tree number b.1 x fault i)

  pub read_block : (number count : ℕ) (after : Remaining) (x : Tree × Remaining) (block : Option (List ℕ × Remaining)) → block_of count after ≡ block → block_by number block ≡ Ok x → ReadBlock number count after x
  read_block number count after x None h k = absurd cc
  read_block number count after x (Some b) h k = by_cert number count after x b h (cert_of b.0) refl k

  counted_outcome : (line : NumberedLine) (count : ℕ) (after : Remaining) → read_count agent line.bytes ≡ Some count → (r : Result (Tree × Remaining) BadLine) → block_by line.number (block_of count after) ≡ r → Outcome IsBadAt any_line BadBlock (cert_in agent) (onto (line ∷ []) after) r
  counted_outcome line count after said (Err bad) e =
      record { front = []; more = least; goes = cert_start; place = inr (inr (record { lines = line ∷ after.lines; split = refl; start = least; others = []; more_is = refl; refused = record { agent = agent; low = low; count = count; line = line; lines = after.lines; left_is = refl; said = (count_is agent line.bytes count said).0; few = (count_is agent line.bytes count said).1; others = zero_leaf ∷ []; due = refl; refused = e } })) }
  counted_outcome line count after said (Ok x) e =
      let b = read_block line.number count after x (block_of count after) refl e in
      let n = next_block count after.last after.ended after.lines b.block b.found in
      record {
        used = line ∷ n.used;
        split = ap (λ (ls : List NumberedLine). line ∷ ls) (n.split ∙ ap (λ (m : Remaining). n.used ++ m.lines) b.rest);
        rest = sym b.rest ∙ n.rest ∙ ap (λ (m : Remaining). record after { lines = m.lines }) b.rest;
        again = λ other follows. counted line count (onto n.used other) said ∙ rw (n.again other, b.tree) refl;
      }

  cert_outcome : (last : ℕ) (ended : Bool) (lines : List NumberedLine) → Ends_so (record { lines = lines; last = last; ended = ended })
  unfolding cert_in
  cert_outcome last ended [] = record { front = []; more = least; goes = cert_start; place = inr (inl (record { whole = refl; at = refl })) }
  cert_outcome last ended (line ∷ lines) = by_count (read_count agent line.bytes) refl where
    after : Remaining
    after = record { lines = lines; last = last; ended = ended }

    by_count : (said : Option ℕ) → read_count agent line.bytes ≡ said → Ends_so (onto (line ∷ []) after)
    by_count None h =
        subst (Outcome IsBadAt any_line BadBlock (cert_in agent) (onto (line ∷ []) after)) (sym (no_count line after h))
        (record { front = []; more = least; goes = cert_start; place = inl (record { line = line; lines = lines; split = refl; at = refl; again = λ other. no_count line other h }) })
    by_count (Some count) h =
        subst (Outcome IsBadAt any_line BadBlock (cert_in agent) (onto (line ∷ []) after)) (sym (counted line count after h)) (counted_outcome line count after h (block_by line.number (block_of count after)) refl)

  cert_goes_on : Anyhow (cert_in agent)
  cert_goes_on = record { first = least; start = cert_start; outcome = λ left. cert_outcome left.last left.ended left.lines }

  package_goes_on : (client : ℕ) → client < 8 → Anyhow (λ left. line_by (package_of agent client) left)
  package_goes_on client less =
      any_form (package_of agent client) (package_line agent client packages.None) packages.None (record { lacks = package_lacks agent client packages.None low (omega (arith, less)) refl; kept = refl }) (package_again agent client packages.None low (omega (arith, less)) refl)

  score_goes_on : Anyhow (score_in agent)
  unfolding score_in
  score_goes_on =
      then_anyhow (λ left. line_by (read_score agent) left) _ (any_form (read_score agent) (score_body agent 0 (pos 0) 0 (pos 0)) (0, pos 0, 0, pos 0) (record { lacks = score_lacks agent 0 (pos 0) 0 (pos 0) low (lit≤ tt) (lit< tt) (lit≤ tt) (lit< tt); kept = refl }) (score_again agent 0 (pos 0) 0 (pos 0) low (lit≤ tt) (lit< tt) (lit≤ tt) (lit< tt))) (λ score.
      then_anyhow (repeat 8 0 (λ client. line_by (package_of agent client))) _ (parts_go_on any_line BadBlock (λ client. line_by (package_of agent client)) 8 package_goes_on 8 0 (lit≤ tt)) (λ packages.
      then_anyhow (cert_in agent) _ cert_goes_on (λ tree.
      steady_done IsBadAt any_line BadBlock (record { best = score.0; cash = score.1; short = score.2; score = score.3; allocation = packages; tree = tree }))))

-- ---- the log

abbrev sheet_reads : ReadsLine IsBadAt is_calm BadBlock (λ left. line_by (is_text (codes "sheet")) left)
sheet_reads = line_reads is_calm BadBlock (λ line. formed (is_text (codes "sheet") line)) (codes "sheet") tt (record { lacks = lacks_from 10 (codes "sheet") refl; kept = refl }) refl refl

pub log_closes : Closes IsBadAt is_calm BadBlock log_in
unfolding log_in
log_closes =
    closes_then IsBadAt is_calm BadBlock head_in _ head_calmly (λ head.
    closes_then IsBadAt is_calm BadBlock (repeat 28 0 history_in) _ (parts_go_on is_calm BadBlock history_in 28 history_calmly 28 0 (lit≤ tt)) (λ histories.
    closes_then IsBadAt is_calm BadBlock cash_in _ cash_calmly (λ cash.
    closes_after_line is_calm BadBlock (λ left. line_by (is_text (codes "sheet")) left) _ sheet_reads (λ sheet.
    closes_then IsBadAt any_line BadBlock (repeat 8 0 score_in) _ (parts_go_on any_line BadBlock score_in 8 (λ agent less. score_goes_on agent (omega (arith, less))) 8 0 (lit≤ tt)) (λ scores.
    closes_then IsBadAt any_line BadBlock (λ left. line_by (is_text (codes "end")) left) _ (any_form (is_text (codes "end")) (codes "end") tt (record { lacks = lacks_from 10 (codes "end") refl; kept = refl }) refl) (λ end.
    text_ends any_line BadBlock (record { head = head; histories = histories; cash = cash; scores = scores })))))))
