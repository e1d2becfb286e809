-- The first bad line of logs, and the exception of certificates.
use Rattle.std.proofs.Common.{◌≡◌, ℕ, zero, suc, ◌+◌, ◌<◌, ◌≤◌, ◌↔◌, ◌⊎◌, inl, inr, lit≤, Bool, true, false, cond, eqb, ltb, List, [], ◌∷◌, ◌++◌, Option, Some, None, Result, Ok, Err, length, map, take, flat_map, refl, sym, ap, subst, ◌∙◌, arith, append_assoc, codes, ◌==◌, All, le-ltb, eq-eqb}
use Rattle.std.proofs.lemmas.Bool.Decides.{nat_tests}
use Rattle.std.proofs.lemmas.List.{append_cancel_left, length-map}
use Rattle.std.proofs.lemmas.List.Concat.{flat_map-cons}
use Rattle.std.proofs.lemmas.List.Elements.{All-nil, All-cons, All-head, All-tail}
use Rattle.reading_laws.specs.{TEXT_BYTES, BadLine, TextEnd, parts_of, NumberedLine, Remaining, lines_from, due_of, at_line, first_number, block_in, block_of, nothing_left, ◌>>=◌, repeat, CertFault, cert_of, cert_text, Tree, cert_line, LoggedGame, IsLoggedScore, formed, is_text, read_score, package_of, read_count, line_by, head_in, history_in, cash_in, cert_by, block_by, cert_in, score_in, log_in, log_of, with_ends}
use Rattle.text_forms.proofs.Reading.{bind_ok, ok_is}
use Rattle.bound_cert.specs.declared.faults.CertFault.TheVariants as certs
use Rattle.bound_cert.proofs.RootCases.{long_text}
use Rattle.bound_cert.proofs.TreeTexts.{cert_printed}
use Rattle.settlement.specs.Sheets.{Scored}
use Rattle.log_reader.specs.declared.fault.LogFault.TheVariants.{Line}
use Rattle.log_reader.specs.Faults.{or_log_fault}
use Rattle.log_reader.proofs.SheetFormLaws.{count_body, count_again}
use Rattle.log_reader.proofs.LogTaking.{part_lacks, lines_lack, log_is}
use Rattle.log_reader.proofs.Taking.{AllFrom}
use Rattle.log_reader.proofs.SheetGiving.{IsScore, log_given_by}
use Rattle.reading_laws.specs.Logs.{HasShortText, IsLogText, IsRefusedLogAt, IsCertificateDue, IsBadAfter, IsBadCertificateLine, IsBadLogLine, bad_line_after}
use Rattle.reading_laws.proofs.Steady.{bytes_of}
use Rattle.reading_laws.proofs.Spots.{AllLack, Front, with_end, part_after, all_front, spot, ends_append, same_prior, cut}
use Rattle.reading_laws.proofs.Law.{Begun, IsWithin, left_of, begun, is_first_or_within, is_refused}
use Rattle.reading_laws.proofs.LineSteps.{IsBadAt, BadLineOf, one_place}
use Rattle.reading_laws.proofs.LogSteps.{BadBlock, is_calm, counted, read_block, log_closes}
use Rattle.reading_laws.proofs.CertificateLines.{there, log_meets}

-- ---- what was read has short certificates

short_of : (text : List ℕ) (tree : Tree) → cert_of text ≡ Ok tree → length text ≤ TEXT_BYTES
short_of text tree e = by_length (ltb TEXT_BYTES (length text)) refl where
  no_tree : cert_of text ≡ Ok tree → TEXT_BYTES < length text → ⊥
  no_tree h long = absurd (let none = long_text text long in cc)

  by_length : (long : Bool) → ltb TEXT_BYTES (length text) ≡ long → length text ≤ TEXT_BYTES
  by_length true h = absurd (no_tree e (grind (arith, nat_tests, h)))
  by_length false h = grind (arith, nat_tests, h)

cert_short : (agent : ℕ) (left : Remaining) (x : Tree × Remaining) → cert_in agent left ≡ Ok x → HasShortText x.0
unfolding cert_in
cert_short agent left x e =
    let a = bind_ok (due_of left) (λ line. at_line line.0.number (formed (read_count agent line.0.bytes)) >>= λ count. block_by line.0.number (block_of count line.1)) x e in
    let b = bind_ok (at_line a.0.0.number (formed (read_count agent a.0.0.bytes))) (λ count. block_by a.0.0.number (block_of count a.0.1)) x a.2 in
    let r = read_block 0 (lit≤ tt) a.0.0.number b.0 a.0.1 x (block_of b.0 a.0.1) refl b.2 in
    let printed = cert_printed r.block.0 x.0 r.tree in
    subst (λ (t : List ℕ). length t ≤ TEXT_BYTES) {x = r.block.0} {y = cert_text x.0} printed.same (short_of r.block.0 x.0 r.tree)

score_short : (agent : ℕ) (left : Remaining) (x : Scored × Remaining) → score_in agent left ≡ Ok x → HasShortText x.0.tree
unfolding score_in
score_short agent left x e =
    let a = bind_ok (line_by (read_score agent) left) _ x e in
    let b = bind_ok (repeat 8 0 (λ client. line_by (package_of agent client)) a.0.1) _ x a.2 in
    let c = bind_ok (cert_in agent b.0.1) _ x b.2 in
    let short = cert_short agent b.0.1 c.0 c.1 in
    subst (λ (y : Scored × Remaining). HasShortText y.0.tree) (ok_is {E = BadLine} (record { best = a.0.0.0; cash = a.0.0.1; short = a.0.0.2; score = a.0.0.3; allocation = b.0.0; tree = c.0.0 }, c.0.1) x c.2) short

each_so : {A : Type 0} (step : ℕ → Remaining → Result (A × Remaining) BadLine) (Q : A → Type 0) → ((i : ℕ) (left : Remaining) (x : A × Remaining) → step i left ≡ Ok x → Q x.0) → (count from : ℕ) (left : Remaining) (x : List A × Remaining) → repeat count from step left ≡ Ok x → All Q x.0
unfolding repeat
each_so {A} step Q so zero from left x e = subst (λ (y : List A × Remaining). All Q y.0) (ok_is {E = BadLine} ([], left) x e) (All-nil Q)
each_so {A} step Q so (suc count) from left x e =
    let a = bind_ok (step from left) (λ first. repeat count (from + 1) step first.1 >>= λ others. Ok (first.0 ∷ others.0, others.1)) x e in
    let b = bind_ok (repeat count (from + 1) step a.0.1) (λ others. Ok (a.0.0 ∷ others.0, others.1)) x a.2 in
    subst (λ (y : List A × Remaining). All Q y.0) (ok_is {E = BadLine} (a.0.0 ∷ b.0.0, b.0.1) x b.2) (All-cons Q a.0.0 b.0.0 (so from left a.0 a.1) (each_so step Q so count (from + 1) a.0.1 b.0 b.1))

scores_short : (left : Remaining) (log : LoggedGame) → log_in left ≡ Ok log → All (λ scored. HasShortText scored.tree) log.scores
unfolding log_in
scores_short left log e =
    let a = bind_ok (head_in left) _ log e in
    let b = bind_ok (repeat 28 0 history_in a.0.1) _ log a.2 in
    let c = bind_ok (cash_in b.0.1) _ log b.2 in
    let d = bind_ok (line_by (is_text (codes "sheet")) c.0.1) _ log c.2 in
    let f = bind_ok (repeat 8 0 score_in d.0.1) _ log d.2 in
    let g = bind_ok (line_by (is_text (codes "end")) f.0.1) _ log f.2 in
    let h = bind_ok (nothing_left g.0.1) _ log g.2 in
    let same = ok_is {E = BadLine} (record { head = a.0.0; histories = b.0.0; cash = c.0.0; scores = f.0.0 }) log h.2 in
    subst (λ (l : LoggedGame). All (λ scored. HasShortText scored.tree) l.scores) same (each_so score_in (λ scored. HasShortText scored.tree) score_short 8 0 d.0.1 f.0 f.1)

found : (text : List ℕ) (log : LoggedGame) → log_in (left_of false text) ≡ Ok log → IsLogText text
found text log e = let is = log_is text log e in (log, is.range, scores_short (left_of false text) log e, is.same)

-- ---- a log is read

each_score : (from : ℕ) (scores : List Scored) → from + length scores ≤ 8 → All IsLoggedScore scores → All (λ scored. HasShortText scored.tree) scores → AllFrom IsScore from scores
each_score from [] few are short = tt
each_score from (s ∷ scores) few are short =
    (record { low = omega (arith, few); range = All-head IsLoggedScore s scores are; short = All-head (λ scored. HasShortText scored.tree) s scores short }, each_score (from + 1) scores (omega (arith, few)) (All-tail IsLoggedScore s scores are) (All-tail (λ scored. HasShortText scored.tree) s scores short))

only : (text : List ℕ) → IsLogText text → (log : LoggedGame) × (log_in (left_of false text) ≡ Ok log)
only text is =
    let eight = is.1.agents in
    (is.0, ap (λ (t : List ℕ). log_in (left_of false t)) is.3 ∙ log_given_by is.0 is.1 (each_score 0 is.0.scores (omega (arith, eight)) is.1.scores is.2))

-- ---- a certificate that is refused

abbrev joined : List (List ℕ) → List ℕ
joined lines = flat_map (λ bytes. bytes) lines

some_ends : (part : List ℕ) (parts : List (List ℕ)) → 0 < length (with_ends (part ∷ parts))
some_ends part [] = omega arith
some_ends part (next ∷ parts) = omega arith

-- the next lines of a text, this many, as a block: there are too few, or these are its bytes
abbrev Taken : Option (List ℕ × Remaining) → ℕ → List (List ℕ) → Type 0
Taken block count ends = ((length ends ≤ count) × (block ≡ None)) ⊎ ((count < length ends) × ((rest : Remaining) × (block ≡ Some (joined (take count ends), rest))))

block_taken : (count number : ℕ) (left : Remaining) (part : List ℕ) (parts : List (List ℕ)) → Taken (block_in number count left (lines_from false number (part ∷ parts)).lines) count (with_ends (part ∷ parts))
block_taken zero number left part parts = inr (some_ends part parts, (_, refl))
block_taken (suc count) number left part [] = inl (omega arith, refl)
block_taken (suc count) number left part (next ∷ parts) = by_rest (block_taken count (number + 1) left next parts)
  where
    here : eqb number number ≡ true
    here = eq-eqb number number refl

    by_rest : Taken (block_in (number + 1) count left (lines_from false (number + 1) (next ∷ parts)).lines) count (with_ends (next ∷ parts))
        → Taken (block_in number (suc count) left (lines_from false number (part ∷ next ∷ parts)).lines) (suc count) (with_ends (part ∷ next ∷ parts))
    by_rest (inl none) = let few = none.0 in inl (omega (arith, few), rw (here, none.1) refl)
    by_rest (inr some) =
        let many = some.0 in
        let bytes = joined (take count (with_ends (next ∷ parts))) in
        let text : joined ((part ++ 10 ∷ []) ∷ take count (with_ends (next ∷ parts))) ≡ part ++ 10 ∷ bytes =
        flat_map-cons (λ (l : List ℕ). l) (part ++ 10 ∷ []) (take count (with_ends (next ∷ parts))) ∙ append_assoc part (10 ∷ []) bytes in
        inr (omega (arith, many), (some.1.0, rw (here, some.1.1, text) refl))

-- the same from the next line on, wherever it stands
block_of_taken : (count number : ℕ) (left : Remaining) (part : List ℕ) (parts : List (List ℕ)) → left.lines ≡ (lines_from false number (part ∷ parts)).lines → Taken (block_of count left) count (with_ends (part ∷ parts))
block_of_taken count number left part [] same =
    let first : first_number left.lines ≡ 0 = ap first_number same in
    subst (λ (b : Option (List ℕ × Remaining)). Taken b count (with_ends (part ∷ []))) (sym (λ i. block_in (first i) count left (same i))) (block_taken count 0 left part [])
block_of_taken count number left part (next ∷ parts) same =
    let first : first_number left.lines ≡ number = ap first_number same in
    subst (λ (b : Option (List ℕ × Remaining)). Taken b count (with_ends (part ∷ next ∷ parts))) (sym (λ i. block_in (first i) count left (same i))) (block_taken count number left part (next ∷ parts))

-- the line at which a block is refused
abbrev Refusal : ℕ → Option (List ℕ × Remaining) → BadLine → Type 0
Refusal number block bad = block_by number block ≡ Err bad

no_block : (number : ℕ) (bad : BadLine) → Refusal number None bad → bad.line ≡ number
no_block number bad e = cc

abbrev with_rest : Remaining → Result Tree BadLine → Result (Tree × Remaining) BadLine
with_rest rest read = read >>= λ tree. Ok (tree, rest)

-- the refusal of a certificate
abbrev Refused : ℕ → Remaining → CertFault → Type 0
Refused number rest fault = (bad : BadLine) × (with_rest rest (cert_by number (Err fault)) ≡ Err bad) × (bad.line ≡ bad_line_after number fault)

by_reason : (ended : Bool) (number line : ℕ) (rest : Remaining) → (bad : BadLine) × (with_rest rest (cond ended (Err (record { line = number; reason = TextEnd })) (Err (record { line = number + line; reason = TextEnd }))) ≡ Err bad) × (bad.line ≡ cond ended number (number + line))
by_reason true number line rest = (_, refl, refl)
by_reason false number line rest = (_, refl, refl)

refused : (number : ℕ) (rest : Remaining) (fault : CertFault) → Refused number rest fault
refused number rest (certs.Line line reason) = by_reason (reason == 7) number line rest
refused number rest certs.TooLong = (_, refl, refl)
refused number rest certs.Memory = (_, refl, refl)

by_fault : (number : ℕ) (rest : Remaining) (bad : BadLine) (fault : CertFault) → with_rest rest (cert_by number (Err fault)) ≡ Err bad → bad.line ≡ bad_line_after number fault
by_fault number rest bad fault e = let r = refused number rest fault in let same : r.0 ≡ bad = cc in ap (λ (b : BadLine). b.line) (sym same) ∙ r.2

by_cert : (number : ℕ) (bytes : List ℕ) (rest : Remaining) (bad : BadLine) (read : Result Tree CertFault) → cert_of bytes ≡ read → with_rest rest (cert_by number read) ≡ Err bad → (fault : CertFault) × (cert_of bytes ≡ Err fault) × (bad.line ≡ bad_line_after number fault)
by_cert number bytes rest bad (Ok tree) is e = absurd cc
by_cert number bytes rest bad (Err fault) is e = (fault, is, by_fault number rest bad fault e)

bad_after : (number count : ℕ) (ends : List (List ℕ)) (block : Option (List ℕ × Remaining)) (bad : BadLine) → Taken block count ends → block_by number block ≡ Err bad → IsBadAfter number ends count bad.line
bad_after number count ends block bad (inl none) e = inl (none.0, no_block number bad (subst (λ (b : Option (List ℕ × Remaining)). Refusal number b bad) none.1 e))
bad_after number count ends block bad (inr some) e =
    let bytes = joined (take count ends) in
    inr (some.0, by_cert number bytes some.1.0 bad (cert_of bytes) refl (subst (λ (b : Option (List ℕ × Remaining)). Refusal number b bad) some.1.1 e))

-- and the other way round
after_bad : (number count line : ℕ) (ends : List (List ℕ)) (block : Option (List ℕ × Remaining)) → Taken block count ends → IsBadAfter number ends count line → (bad : BadLine) × (block_by number block ≡ Err bad) × (bad.line ≡ line)
after_bad number count line ends block (inl none) (inl few) = (record { line = number; reason = TextEnd }, ap (block_by number) none.1, sym few.1)
after_bad number count line ends block (inl none) (inr cert) = let few = none.0 in let many = cert.0 in absurd (omega (arith, few, many))
after_bad number count line ends block (inr some) (inl few) = let many = some.0 in let less = few.0 in absurd (omega (arith, many, less))
after_bad number count line ends block (inr some) (inr cert) =
    let r = refused number some.1.0 cert.1.0 in
    (r.0, ap (block_by number) some.1.1 ∙ ap (λ (read : Result Tree CertFault). with_rest some.1.0 (cert_by number read)) cert.1.1 ∙ r.1, r.2 ∙ sym cert.1.2)

-- the lines after a line of a text
lines_after : (prior : List (List ℕ)) (front : List NumberedLine) (line : NumberedLine) (lines : List NumberedLine) (next : List ℕ) (after : List (List ℕ)) → Front false 1 prior front → (lines_from false 1 (prior ++ line.bytes ∷ next ∷ after)).lines ≡ front ++ line ∷ lines
    → lines ≡ (lines_from false (1 + length prior + 1) (next ∷ after)).lines
lines_after prior front line lines next after f same =
    let rest = lines_from false (1 + length prior + 1) (next ∷ after) in
    let one : NumberedLine = record { number = 1 + length prior; bytes = line.bytes } in
    let both : front ++ line ∷ lines ≡ front ++ one ∷ rest.lines = sym same ∙ ap (λ (l : Remaining). l.lines) (f.again line.bytes (next ∷ after)) in
    tails line one lines rest.lines (append_cancel_left front (line ∷ lines) (one ∷ rest.lines) both) where
      tails : (x y : NumberedLine) (xs ys : List NumberedLine) → x ∷ xs ≡ y ∷ ys → xs ≡ ys
      tails x y xs ys h = cc

-- a log that has the same lines before a certificate of the agent
due_there : (prior more others : List (List ℕ)) (agent : ℕ) (start : List (List ℕ)) (rest : List (List ℕ)) → more ≡ start ++ others → start ≡ count_body agent 1 ∷ rest → Begun IsBadAt is_calm BadBlock false log_in IsLogText found only prior more
    → IsCertificateDue (map with_end prior) agent
due_there prior more others agent start rest more_is start_is b =
    let next = part_after (rest ++ others) [] [] in
    let are : parts_of 10 b.other ≡ prior ++ count_body agent 1 ∷ ((rest ++ others) ++ [] ∷ []) =
    b.parts ∙ ap (λ (ls : List (List ℕ)). prior ++ (ls ++ [] ∷ [])) (more_is ∙ ap (λ (ls : List (List ℕ)). ls ++ others) start_is) in
    record {
      other = b.other;
      is = b.is;
      count = 1;
      after = with_ends (next.0 ∷ next.1);
      lines = ap with_ends (are ∙ ap (λ (ls : List (List ℕ)). prior ++ count_body agent 1 ∷ ls) next.2) ∙ ends_append prior (count_body agent 1) (next.0 ∷ next.1);
    }

-- what is refused within is the exception
bad_within : (text : List ℕ) (bad : BadLine) → IsWithin IsBadAt is_calm BadBlock false log_in IsLogText found only text bad → IsBadCertificateLine text bad.line
bad_within text bad w =
    let b = w.place.refused in
    let whole : (left_of false text).lines ≡ w.front ++ b.line ∷ b.lines = w.place.split ∙ ap (λ (ls : List NumberedLine). w.front ++ ls) {y = b.line ∷ b.lines} b.left_is in
    let s = spot false 1 (parts_of 10 text) w.front b.line b.lines whole in
    let body = count_body b.agent b.count in
    let are : parts_of 10 text ≡ s.prior ++ body ∷ s.next ∷ s.after = s.parts_are ∙ ap (λ (l : List ℕ). s.prior ++ l ∷ s.next ∷ s.after) b.said in
    let left : Remaining = record (left_of false text) { lines = b.lines } in
    let lines = lines_after s.prior w.front b.line b.lines s.next s.after s.ahead (ap (λ (ps : List (List ℕ)). (lines_from false 1 ps).lines) {y = parts_of 10 text} (sym s.parts_are) ∙ whole) in
    let count = length-map s.prior with_end in
    let here = s.number_is in
    let number : b.line.number ≡ length (map with_end s.prior) + 1 = omega (arith, here, count) in
    record {
      before = map with_end s.prior;
      agent = b.agent;
      known = let low = b.low in omega (arith, low);
      count = b.count;
      few = b.few;
      after = with_ends (s.next ∷ s.after);
      lines = ap with_ends are ∙ ends_append s.prior body (s.next ∷ s.after);
      due = due_there s.prior w.more w.place.others b.agent w.place.start b.others w.place.more_is b.due
          (begun IsBadAt is_calm BadBlock false log_in IsLogText found only text s.prior (b.line.bytes ∷ s.next ∷ s.after) w.front w.more s.parts_are (b.line.bytes, s.next ∷ s.after, refl) s.ahead w.goes);
      bad = bad_after (length (map with_end s.prior) + 1) b.count (with_ends (s.next ∷ s.after)) (block_of b.count left) bad (block_of_taken b.count (1 + length s.prior + 1) left s.next s.after lines)
          (subst (λ (n : ℕ). Refusal n (block_of b.count left) bad) number b.refused);
    }

-- ---- the exception is refused

-- a log has a line of this agent's certificate only where these lines are before it, so the text is read up to there
exception_refused : (text : List ℕ) (line : ℕ) → IsBadCertificateLine text line → (bad : BadLine) × (log_in (left_of false text) ≡ Err bad) × (bad.line ≡ line)
exception_refused text line b =
    let known = b.known in
    let low : b.agent ≤ 7 = omega (arith, known) in
    let d = b.due in
    let t = cut (parts_of 10 text) b.before (cert_line b.agent b.count) b.after (part_lacks text) b.lines in
    let o = cut (parts_of 10 d.other) b.before (cert_line b.agent d.count) d.after (part_lacks d.other) d.lines in
    let prior = same_prior o.prior t.prior (sym o.before_is ∙ t.before_is) in
    let front = all_front 1 t.prior in
    let number = 1 + length t.prior in
    let rest = lines_from false (number + 1) (t.part ∷ t.others) in
    let others = lines_from false (number + 1) (o.part ∷ o.others) in
    let cert : NumberedLine = record { number = number; bytes = cert_line b.agent b.count } in
    let log_cert : NumberedLine = record { number = number; bytes = cert_line b.agent d.count } in
    let here : left_of false text ≡ there front.0 cert rest = ap (lines_from false 1) t.are ∙ front.1.again cert.bytes (t.part ∷ t.others) in
    let log_here : left_of false d.other ≡ there front.0 log_cert others =
    ap (lines_from false 1) (o.are ∙ ap (λ (ls : List (List ℕ)). ls ++ log_cert.bytes ∷ o.part ∷ o.others) prior) ∙ front.1.again log_cert.bytes (o.part ∷ o.others) in
    let lack = subst (λ (l : Remaining). AllLack (bytes_of l.lines)) log_here (lines_lack 1 (parts_of 10 d.other) (part_lacks d.other)) in
    let log = only d.other d.is in
    let r = (log_meets b.agent low).met front.0 (record { cert = log_cert; rest = others; is = (d.count, refl); lack = lack }) log.0 (ap log_in (sym log_here) ∙ log.1) in
    let count = length-map t.prior with_end in
    let before = ap length t.before_is in
    let place : length b.before + 1 ≡ number = omega (arith, count, before) in
    let bad = subst (λ (n : ℕ). IsBadAfter n (with_ends (t.part ∷ t.others)) b.count line) place (subst (λ (ls : List (List ℕ)). IsBadAfter (length b.before + 1) ls b.count line) t.after_is b.bad) in
    let a = after_bad number b.count line (with_ends (t.part ∷ t.others)) (block_of b.count rest) (block_of_taken b.count (number + 1) rest t.part t.others refl) bad in
    let read = counted b.agent low cert b.count rest (count_again b.agent b.count low b.few) ∙ a.1 in
    (a.0, ap log_in here ∙ r.is cert rest (b.count, refl) ∙ ap (λ (s : Result (Tree × Remaining) BadLine). s >>= r.next) read, a.2)

-- ---- the law

short_log : (text : List ℕ) → length text ≤ TEXT_BYTES → log_of text ≡ or_log_fault (log_in (left_of false text))
unfolding log_of
short_log text short = let long : ltb TEXT_BYTES (length text) ≡ false = le-ltb _ _ short in rw long refl

bad_line_of : {A : Type 0} (r : Result A BadLine) (line : ℕ) → or_log_fault r ≡ Err (Line line) → BadLineOf r line
bad_line_of (Ok x) line e = absurd cc
bad_line_of (Err bad) line e = record { bad = bad; is = refl; at = cc }

shown : (text : List ℕ) (line : ℕ) → length text ≤ TEXT_BYTES → (bad : BadLine) × (log_in (left_of false text) ≡ Err bad) × (bad.line ≡ line) → IsRefusedLogAt text line
shown text line short r = short_log text short ∙ ap or_log_fault r.1 ∙ ap (λ (n : ℕ). Err (Line n)) r.2

-- the exception gives one line
one_line : (text : List ℕ) (bad : BadLine) → log_in (left_of false text) ≡ Err bad → (line : ℕ) → IsBadCertificateLine text line → line ≡ bad.line
one_line text bad e line is = let r = exception_refused text line is in let same : r.0 ≡ bad = cc in sym r.2 ∙ ap (λ (b : BadLine). b.line) same

log_refused : (text : List ℕ) (line : ℕ) → length text ≤ TEXT_BYTES → IsRefusedLogAt text line → IsBadLogLine text line
log_refused text line short r =
    let bad = bad_line_of (log_in (left_of false text)) line (sym (short_log text short) ∙ r) in
    elim (is_first_or_within IsBadAt is_calm BadBlock false log_in IsLogText found only log_closes one_place text line bad.bad bad.is bad.at) as (λ _. IsBadLogLine text line) [
      | inl first ↦ inr (first, λ other is. one_line text bad.bad bad.is other is ∙ bad.at)
      | inr w ↦ inl (subst (IsBadCertificateLine text) bad.at (bad_within text bad.bad w))
    ]

log_bad : (text : List ℕ) (line : ℕ) → length text ≤ TEXT_BYTES → IsBadLogLine text line → IsRefusedLogAt text line
log_bad text line short (inl is) = shown text line short (exception_refused text line is)
log_bad text line short (inr first) =
    shown text line short (is_refused IsBadAt is_calm BadBlock false log_in IsLogText found only log_closes text line (λ fault w. first.1 fault.line (bad_within text fault w)) first.0)

pub log_law : (text : List ℕ) (line : ℕ) → length text ≤ TEXT_BYTES → IsRefusedLogAt text line ↔ IsBadLogLine text line
log_law text line short = (log_refused text line short, log_bad text line short)
