-- A log that is read is its text, and lies in its ranges.
use Rattle.std.proofs.Common.{◌≡◌, ℕ, zero, suc, ◌+◌, ◌≤◌, Bool, true, false, cond, eqb, List, [], ◌∷◌, ◌++◌, Option, Some, None, Result, Ok, Err, length, map, refl, sym, ap, ◌∙◌, subst, append_assoc, arith, ℤ, inl, inr, codes, option_map, bytes_eq, All, flat_map, length-append}
use Rattle.std.specs.List.{AllByRecursion, enumerate_from, join_with_byte, onto_first}
use Rattle.std.proofs.lemmas.Option.{cond_some, same_Some}
use Rattle.std.proofs.lemmas.Grind.{flat_map-append}
use Rattle.std.proofs.lemmas.List.Concat.{flat_map-cons}
use Rattle.log_reader.specs.{TEXT_BYTES, Call, Reply, Trade, CashEntry, BadLine, parts_of, NumberedLine, Remaining, lines_from, text_of, due_of, at_line, with_line, first_number, block_in, block_of, nothing_left, TextEnd, IsTrade, IsEntry, IsHistory, Package, IsPackage, Tree, IsCertificate, tree_lines, cert_text, cert_of, CertFault, Scored, Verdict, Cause, Head, Play, Serve, formed, is_text, read_link, read_end, read_missed, auction_of, trade_of, read_entry, read_cash_line, cash_entry_of, read_score, package_of, read_count, line_by, as_long_as, is_served, served_in, head_by, head_in, entry_in, history_in, cash_in, cert_by, block_by, cert_in, score_in, log_in}
use Rattle.auction_rules.specs.History.{Entry}
use Rattle.text_forms.specs.Steps.{◌>>=◌, repeat, lines_of_parts, one_line}
use Rattle.text_forms.proofs.Reading.{bind_ok, ok_is}
use Rattle.tac_base.proofs.Signed.{Lacks}
use Rattle.bound_cert.specs.declared.faults.CertFault.TheVariants as certs
use Rattle.bound_cert.proofs.TreeTexts.{cert_printed}
use Rattle.bound_cert.proofs.TreesAgain.{parts_again, spelling_parts}
use Rattle.line_protocol.proofs.Numbers.{either_way, is_word}
use Rattle.log_text.specs.{link_line, end_line, missed_line, head_text, first_lines, auction_line, trade_line, entry_line, entry_text, auction_text, cash_line, cash_entry_line, cash_text, histories_text, score_line, package_line, cert_line, agent_lines, sheet_part, LoggedGame, logged_text, IsLoggedVerdict, IsLoggedEnd, IsLoggedHead, IsLoggedCashEntry, IsLoggedScore, AreHistories, IsLogged}
use Rattle.log_text.proofs.HeadsAgain.{end_words, end_row, missed_row}
use Rattle.log_text.proofs.Trades.{trade_row, auction_row}
use Rattle.log_text.proofs.Histories.{count_row}
use Rattle.log_reader.proofs.HeadFormLaws.{link_words, link_is, link_text, end_is, missed_text, missed_is}
use Rattle.log_reader.proofs.EntryFormLaws.{auction_body, auction_is, trade_body, trade_is, entry_is, entry_end, cash_body, cash_is}
use Rattle.log_reader.proofs.CashFormLaws.{cash_entry_body, cash_entry_is, cash_entry_end}
use Rattle.log_reader.proofs.SheetFormLaws.{score_is, package_is, agents_cert_text, count_is}
use Rattle.log_reader.proofs.Taking.{bytes_of_parts, bytes_left, AreLines, later_lines, TookBytes, took_both, took_as, took_none, one_text, line_took, line_takes, AllFrom, TakesBytes, repeat_took_bytes, as_long_took, all_of, parts_numbered, parts_alike, parts_of_lines, sheet_text, whole_text, took_text}

-- ---- lines

-- a line that is a known text
text_took : (text : List ℕ) (left : Remaining) (x : Unit {0} × Remaining) → line_by (is_text text) left ≡ Ok x → TookBytes left (text ++ 10 ∷ []) x.1
text_took text left x e =
    let r = line_took (is_text text) left x e in
    let c = cond_some (bytes_eq r.0 text) tt x.0 r.2 in
    took_as left x.1 (r.0 ++ 10 ∷ []) (text ++ 10 ∷ []) (ap (λ (t : List ℕ). t ++ 10 ∷ []) (is_word r.0 text c.0)) r.1

link_takes : TakesBytes (λ place. line_by (read_link place)) (λ place v. link_line (place, v)) (λ _ v. IsLoggedVerdict v)
unfolding TakesBytes
link_takes place left x are e = line_takes (read_link place) (λ v. join_with_byte 32 (link_words place v)) (λ v. link_line (place, v)) IsLoggedVerdict (link_is place) (λ v _. link_text place v) left x e

end_takes : TakesBytes (λ _. line_by read_end) (λ _ e. end_line e) (λ _ e. IsLoggedEnd e)
unfolding TakesBytes
end_takes i left x are e = line_takes read_end (λ end. join_with_byte 32 (end_words end)) end_line IsLoggedEnd end_is (λ end _. sym (end_row end)) left x e

missed_took : (left : Remaining) (x : ℕ × Remaining) → line_by read_missed left ≡ Ok x → TookBytes left (missed_line x.0) x.1 × (x.0 ≤ 255)
missed_took left x e = line_takes read_missed missed_text missed_line (λ missed. missed ≤ 255) missed_is (λ missed _. sym (missed_row missed)) left x e

trade_takes : (good : ℕ) → TakesBytes (λ _. line_by (trade_of good)) (λ _ t. trade_line t) (λ _ t. IsTrade good t)
unfolding TakesBytes
trade_takes good i left x are e = line_takes (trade_of good) trade_body trade_line (IsTrade good) (trade_is good) (λ t _. sym (trade_row t)) left x e

cash_takes : TakesBytes (λ _. line_by cash_entry_of) (λ _ e. cash_entry_line e) (λ _ e. IsLoggedCashEntry e)
unfolding TakesBytes
cash_takes i left x are e = line_takes cash_entry_of cash_entry_body cash_entry_line IsLoggedCashEntry cash_entry_is cash_entry_end left x e

package_takes : (agent : ℕ) → TakesBytes (λ client. line_by (package_of agent client)) (λ client p. text_of (package_line agent client p ∷ [])) (λ _ p. IsPackage p)
unfolding TakesBytes
package_takes agent client left x are e =
    line_takes (package_of agent client) (package_line agent client) (λ p. text_of (package_line agent client p ∷ [])) IsPackage (package_is agent client) (λ p _. sym (one_text (package_line agent client p))) left x e

-- ---- the head

-- what was read: the bytes of a part in its ranges
pub record TookPart {A : Type 0} (bytes : A → List ℕ) (P : A → Type 0) (left : Remaining) (x : A × Remaining) : Type 0 where
  pub took : TookBytes left (bytes x.0) x.1
  pub range : P x.0

abbrev served_text : List Verdict → List (ℕ × Cause) → ℕ → List ℕ
served_text links ends missed = flat_map link_line (enumerate_from 0 links) ++ (flat_map end_line ends ++ missed_line missed)

-- the lines after that of the kind of the game
abbrev after_kind : Head → List ℕ
after_kind Play = []
after_kind (Serve links ends missed) = served_text links ends missed

-- the word of a game over links, or from a script
abbrev kind_word : Bool → List ℕ
kind_word false = codes "play"
kind_word true = codes "serve"

-- a head after its title
abbrev with_kind : Bool → Head → List ℕ
with_kind served head = (kind_word served ++ 10 ∷ []) ++ after_kind head

record TookKind (served : Bool) (left : Remaining) (x : Head × Remaining) : Type 0 where
  took : TookBytes left (after_kind x.0) x.1
  range : IsLoggedHead x.0
  text : with_kind served x.0 ≡ head_text x.0

served_took : (left : Remaining) (x : Head × Remaining) → AreLines left → served_in left ≡ Ok x → TookKind true left x
served_took left x are e =
    let a = bind_ok (as_long_as (codes "link") (λ place. line_by (read_link place)) 255 0 left) _ x e in
    let b = bind_ok (as_long_as (codes "end") (λ _. line_by read_end) TEXT_BYTES 0 a.0.1) _ x a.2 in
    let c = bind_ok (line_by read_missed b.0.1) _ x b.2 in
    let links = as_long_took (codes "link") (λ place. line_by (read_link place)) (λ place v. link_line (place, v)) (λ _ v. IsLoggedVerdict v) link_takes 255 0 left a.0 are a.1 in
    let ends = as_long_took (codes "end") (λ _. line_by read_end) (λ _ e. end_line e) (λ _ e. IsLoggedEnd e) end_takes TEXT_BYTES 0 a.0.1 b.0 (links.0.took.lines are) b.1 in
    let missed = missed_took b.0.1 c.0 c.1 in
    subst (TookKind true left) (ok_is {E = BadLine} (Serve a.0.0 b.0.0 c.0.0, c.0.1) x c.2) (record {
      took = took_both left a.0.1 c.0.1 (flat_map link_line (enumerate_from 0 a.0.0)) (flat_map end_line b.0.0 ++ missed_line c.0.0)
          (took_as left a.0.1 _ _ (parts_numbered (λ place v. link_line (place, v)) 0 a.0.0) links.0.took)
          (took_both a.0.1 b.0.1 c.0.1 (flat_map end_line b.0.0) (missed_line c.0.0) (took_as a.0.1 b.0.1 _ _ (parts_alike end_line 0 b.0.0) ends.0.took) missed.0);
      range = record { few_links = links.1; links_are = all_of IsLoggedVerdict 0 a.0.0 links.0.each; few_ends = ends.1; ends_are = all_of IsLoggedEnd 0 b.0.0 ends.0.each; few_missed = missed.1 };
      text = ap (λ (t : List ℕ). codes "serve\n" ++ t) (sym (append_assoc (flat_map link_line (enumerate_from 0 a.0.0)) (flat_map end_line b.0.0) (missed_line c.0.0)));
    })

kind_is : (line : List ℕ) (served : Bool) → is_served line ≡ Some served → line ≡ kind_word served
kind_is line served h =
    elim (either_way (bytes_eq line (codes "play")) (Some false) _ served h) [
      | inl is ↦ is_word line (codes "play") is.0 ∙ ap kind_word (same_Some false served is.1)
      | inr h ↦ elim (either_way (bytes_eq line (codes "serve")) (Some true) None served h) [
        | inl is ↦ is_word line (codes "serve") is.0 ∙ ap kind_word (same_Some true served is.1)
        | inr e ↦ absurd cc
      ]
    ]

kind_text : (served : Bool) (left : Remaining) (x : Head × Remaining) → AreLines left → head_by served left ≡ Ok x → TookKind served left x
kind_text false left x are e = subst (TookKind false left) (ok_is {E = BadLine} (Play, left) x e) (record { took = took_none left; range = tt; text = refl })
kind_text true left x are e = served_took left x are e

pub head_took : (left : Remaining) (x : Head × Remaining) → AreLines left → head_in left ≡ Ok x → TookPart first_lines IsLoggedHead left x
unfolding head_in
head_took left x are e =
    let a = bind_ok (line_by (is_text (codes "taclog 1")) left) _ x e in
    let b = bind_ok (line_by is_served a.0.1) _ x a.2 in
    let title = text_took (codes "taclog 1") left a.0 a.1 in
    let kind = line_took is_served a.0.1 b.0 b.1 in
    let word = took_as a.0.1 b.0.1 (kind.0 ++ 10 ∷ []) (kind_word b.0.0 ++ 10 ∷ []) (ap (λ (t : List ℕ). t ++ 10 ∷ []) (kind_is kind.0 b.0.0 kind.2)) kind.1 in
    let rest = kind_text b.0.0 b.0.1 x (word.lines (title.lines are)) b.2 in
    record {
      took = took_both left a.0.1 x.1 (codes "taclog 1\n") (head_text x.0) title
          (took_as a.0.1 x.1 _ _ rest.text (took_both a.0.1 b.0.1 x.1 (kind_word b.0.0 ++ 10 ∷ []) (after_kind x.0) word rest.took));
      range = rest.range;
    }

-- ---- the histories

abbrev made_entry : ℕ → Call → Reply → List Trade → Entry
made_entry caller call reply trades = record { caller = caller; call = call; reply = reply; trades = trades }

entry_takes : (good : ℕ) → TakesBytes (λ _. entry_in good) (λ _ e. entry_text e) (λ _ e. IsEntry good e)
unfolding TakesBytes entry_in
entry_takes good i left x are e =
    let a = bind_ok (line_by read_entry left) _ x e in
    let b = bind_ok (as_long_as (codes "trade") (λ _. line_by (trade_of good)) 128 0 a.0.1) _ x a.2 in
    let r = line_took read_entry left a.0 a.1 in
    let is = entry_is r.0 a.0.0 r.2 in
    let trades = as_long_took (codes "trade") (λ _. line_by (trade_of good)) (λ _ t. trade_line t) (λ _ t. IsTrade good t) (trade_takes good) 128 0 a.0.1 b.0 (r.1.lines are) b.1 in
    subst (λ (y : Entry × Remaining). TookBytes left (entry_text y.0) y.1 × IsEntry good y.0) (ok_is {E = BadLine} (made_entry a.0.0.0 a.0.0.1 a.0.0.2 b.0.0, b.0.1) x b.2) (
      took_both left a.0.1 b.0.1 (entry_line a.0.0.0 a.0.0.1 a.0.0.2) (flat_map trade_line b.0.0)
          (took_as left a.0.1 (r.0 ++ 10 ∷ []) (entry_line a.0.0.0 a.0.0.1 a.0.0.2) (ap (λ (t : List ℕ). t ++ 10 ∷ []) is.text ∙ entry_end a.0.0.0 a.0.0.1 a.0.0.2) r.1)
          (took_as a.0.1 b.0.1 _ _ (parts_alike trade_line 0 b.0.0) trades.0.took),
      record { caller = is.caller_range; call = is.call_range; reply = is.reply_range; few = trades.1; trades = all_of (IsTrade good) 0 b.0.0 trades.0.each },
    )

history_takes : TakesBytes history_in (λ good history. auction_text good history) IsHistory
unfolding TakesBytes history_in
history_takes good left x are e =
    let a = bind_ok (line_by (auction_of good) left) _ x e in
    let r = line_takes (auction_of good) (auction_body good) (auction_line good) (λ n. n ≤ 8256) (auction_is good) (λ n _. sym (auction_row good n)) left a.0 a.1 in
    let entries = repeat_took_bytes (λ _. entry_in good) (λ _ e. entry_text e) (λ _ e. IsEntry good e) (entry_takes good) a.0.0 0 a.0.1 x (r.0.lines are) a.2 in
    let few : a.0.0 ≤ 8256 = r.1 in
    let count = entries.1 in (
      took_both left a.0.1 x.1 (auction_line good (length x.0)) (flat_map entry_text x.0)
          (took_as left a.0.1 (auction_line good a.0.0) (auction_line good (length x.0)) (ap (auction_line good) (sym count)) r.0)
          (took_as a.0.1 x.1 _ _ (parts_alike entry_text 0 x.0) entries.0.took),
      record { few = omega (arith, few, count); entries = all_of (IsEntry good) 0 x.0 entries.0.each },
    )

-- the entries of a cash history in their ranges
record AreLoggedCash (cash : List CashEntry) : Type 0 where
  few : length cash ≤ 238048
  each : All IsLoggedCashEntry cash

cash_took : (left : Remaining) (x : List CashEntry × Remaining) → AreLines left → cash_in left ≡ Ok x → TookPart cash_text AreLoggedCash left x
unfolding cash_in
cash_took left x are e =
    let a = bind_ok (line_by read_cash_line left) _ x e in
    let r = line_takes read_cash_line cash_body cash_line (λ n. n ≤ 238048) cash_is (λ n _. sym (count_row n)) left a.0 a.1 in
    let entries = repeat_took_bytes (λ _. line_by cash_entry_of) (λ _ e. cash_entry_line e) (λ _ e. IsLoggedCashEntry e) cash_takes a.0.0 0 a.0.1 x (r.0.lines are) a.2 in
    let few : a.0.0 ≤ 238048 = r.1 in
    let count = entries.1 in
    record {
      took = took_both left a.0.1 x.1 (cash_line (length x.0)) (flat_map cash_entry_line x.0)
          (took_as left a.0.1 (cash_line a.0.0) (cash_line (length x.0)) (ap cash_line (sym count)) r.0)
          (took_as a.0.1 x.1 _ _ (parts_alike cash_entry_line 0 x.0) entries.0.took);
      range = record { few = omega (arith, few, count); each = all_of IsLoggedCashEntry 0 x.0 entries.0.each };
    }

-- ---- certificates

-- this many lines were taken
record TookBlock (count : ℕ) (lines : List (List ℕ)) (left : Remaining) (x : List ℕ × Remaining) : Type 0 where
  taken : List (List ℕ)
  count_is : length taken ≡ count
  parts : lines ≡ taken ++ map (λ line. line.bytes) x.1.lines
  bytes : x.0 ≡ text_of taken
  same : x.1.ended ≡ left.ended

block_took : (number count : ℕ) (left : Remaining) (lines : List NumberedLine) (x : List ℕ × Remaining) → block_in number count left lines ≡ Some x → TookBlock count (map (λ line. line.bytes) lines) left x
block_took number zero left lines x e =
    subst (TookBlock 0 (map (λ line. line.bytes) lines) left) (same_Some ([], record left { lines = lines }) x e) (record { taken = []; count_is = refl; parts = refl; bytes = refl; same = refl })
block_took number (suc count) left [] x e = absurd cc
block_took number (suc count) left (line ∷ lines) x e =
    elim (either_way (eqb line.number number) (option_map (with_line line.bytes) (block_in (number + 1) count left lines)) None x e) [
      | inl is ↦
          let inner = mapped (block_in (number + 1) count left lines) (with_line line.bytes) x is.1 in
          let more = block_took (number + 1) count left lines inner.0 inner.1 in
          subst (TookBlock (suc count) (line.bytes ∷ map (λ l. l.bytes) lines) left) inner.2 (record {
            taken = line.bytes ∷ more.taken;
            count_is = ap suc more.count_is;
            parts = ap (λ (ls : List (List ℕ)). line.bytes ∷ ls) more.parts;
            bytes = ap (λ (t : List ℕ). line.bytes ++ 10 ∷ t) more.bytes ∙ sym (flat_map-cons (λ l. l ++ 10 ∷ []) line.bytes more.taken ∙ append_assoc line.bytes (10 ∷ []) (text_of more.taken));
            same = more.same;
          })
      | inr none ↦ absurd cc
    ]
  where
    mapped : {A B : Type 0} (o : Option A) (f : A → B) (y : B) → option_map f o ≡ Some y → (z : A) × (o ≡ Some z) × (f z ≡ y)
    mapped None f y h = absurd cc
    mapped (Some z) f y h = (z, refl, same_Some (f z) y h)

-- a certificate that was read of a block
cert_ok : (number : ℕ) (read : Result Tree CertFault) (tree : Tree) → cert_by number read ≡ Ok tree → read ≡ Ok tree
cert_ok number (Ok read) tree e = ap (λ (t : Tree). Ok t) (ok_is {E = BadLine} read tree e)
cert_ok number (Err (certs.Line line reason)) tree e = absurd (bad (eqb reason 7) number (number + line) tree e)
  where
    bad : (b : Bool) (m n : ℕ) (t : Tree) → ◌≡◌ {A = Result Tree BadLine} (cond b (Err (record { line = m; reason = TextEnd })) (Err (record { line = n; reason = TextEnd }))) (Ok t) → ⊥
    bad true m n t h = cc
    bad false m n t h = cc
cert_ok number (Err certs.TooLong) tree e = absurd cc
cert_ok number (Err certs.Memory) tree e = absurd cc

record IsShortCert (tree : Tree) : Type 0 where
  fits : IsCertificate tree
  few : length (tree_lines tree) ≤ 4294967295

record TookCert (number count : ℕ) (left : Remaining) (x : Tree × Remaining) : Type 0 where
  took : AreLines left → (TookBytes left (cert_text x.0) x.1) × (count ≡ length (tree_lines x.0))
  fits : IsCertificate x.0

cert_block : (number count : ℕ) (left : Remaining) (block : Option (List ℕ × Remaining)) (x : Tree × Remaining) → block_of count left ≡ block → block_by number block ≡ Ok x → TookCert number count left x
cert_block number count left None x at e = absurd cc
cert_block number count left (Some block) x at e =
    let b = bind_ok (cert_by number (cert_of block.0)) (λ tree. Ok (tree, block.1)) x e in
    let printed = cert_printed block.0 b.0 (cert_ok number (cert_of block.0) b.0 b.1) in
    let taken = block_took (first_number left.lines) count left left.lines block at in
    let text : text_of taken.taken ≡ cert_text b.0 = sym taken.bytes ∙ printed.same in
    subst (TookCert number count left) (ok_is {E = BadLine} (b.0, block.1) x b.2) (record {
      took = λ are.
          let lacks : AllByRecursion (Lacks 10) (taken.taken ++ map (λ line. line.bytes) block.1.lines) = subst (AllByRecursion (Lacks 10)) taken.parts are in
          let counted = ap length (parts_again taken.taken (first_lines_lack taken.taken (map (λ line. line.bytes) block.1.lines) lacks)) in
          let spelled = spelling_parts b.0 printed.fits in
          let same = ap (λ (t : List ℕ). length (parts_of 10 t)) text in
          let count_is = taken.count_is in (
            record {
              parts = ap text_of taken.parts ∙ flat_map-append (λ line. line ++ 10 ∷ []) taken.taken (map (λ line. line.bytes) block.1.lines) ∙ ap (λ (t : List ℕ). t ++ bytes_left block.1) text;
              same = taken.same;
              lines = λ h. later_lines taken.taken (map (λ line. line.bytes) block.1.lines) lacks;
            },
            omega (arith, counted, spelled, same, count_is, length-append taken.taken ([] ∷ [])),
          );
      fits = printed.fits;
    })
  where
    first_lines_lack : (xs ys : List (List ℕ)) → AllByRecursion (Lacks 10) (xs ++ ys) → AllByRecursion (Lacks 10) xs
    first_lines_lack [] ys h = tt
    first_lines_lack (x ∷ xs) ys h = (h.0, first_lines_lack xs ys h.1)

line_again_by : {A : Type 0} (form : List ℕ → Option A) (left : Remaining) (line : NumberedLine × Remaining) (x : A) → due_of left ≡ Ok line → at_line line.0.number (formed (form line.0.bytes)) ≡ Ok x → line_by form left ≡ Ok (x, line.1)
line_again_by form left line x due read = rw (due, read) refl

cert_took : (agent : ℕ) (left : Remaining) (x : Tree × Remaining) → AreLines left → cert_in agent left ≡ Ok x → TookPart (agents_cert_text agent) IsShortCert left x
unfolding cert_in
cert_took agent left x are e =
    let a = bind_ok (due_of left) (λ line. at_line line.0.number (formed (read_count agent line.0.bytes)) >>= λ count. block_by line.0.number (block_of count line.1)) x e in
    let b = bind_ok (at_line a.0.0.number (formed (read_count agent a.0.0.bytes))) (λ count. block_by a.0.0.number (block_of count a.0.1)) x a.2 in
    let r = line_took (read_count agent) left (b.0, a.0.1) (line_again_by (read_count agent) left a.0 b.0 a.1 b.1) in
    let is = count_is agent r.0 b.0 r.2 in
    let cert = cert_block a.0.0.number b.0 a.0.1 (block_of b.0 a.0.1) x refl b.2 in
    let block = cert.took (r.1.lines are) in
    let few = is.1 in
    let count = block.1 in
    record {
      took = took_as left x.1 ((cert_line agent (length (tree_lines x.0)) ++ 10 ∷ []) ++ cert_text x.0) (agents_cert_text agent x.0) (sym (flat_map-cons (λ l. l ++ 10 ∷ []) (cert_line agent (length (tree_lines x.0))) (tree_lines x.0)))
          (took_both left a.0.1 x.1 (cert_line agent (length (tree_lines x.0)) ++ 10 ∷ []) (cert_text x.0)
          (took_as left a.0.1 (r.0 ++ 10 ∷ []) (cert_line agent (length (tree_lines x.0)) ++ 10 ∷ []) (ap (λ (t : List ℕ). t ++ 10 ∷ []) is.0 ∙ ap (λ (n : ℕ). cert_line agent n ++ 10 ∷ []) count) r.1) block.0);
      range = record { fits = cert.fits; few = omega (arith, few, count) };
    }

-- ---- scores

abbrev made_scored : ℕ × ℤ × ℕ × ℤ → List Package → Tree → Scored
made_scored score packages tree = record { best = score.0; cash = score.1; short = score.2; score = score.3; allocation = packages; tree = tree }

-- the lines of an agent, as they are taken
agent_text : (agent : ℕ) (scored : Scored) →
    (score_line agent scored ++ 10 ∷ []) ++ (text_of (lines_of_parts (one_line (package_line agent)) 0 scored.allocation) ++ agents_cert_text agent scored.tree) ≡ text_of (agent_lines agent scored)
agent_text agent scored =
    let packages = lines_of_parts (one_line (package_line agent)) 0 scored.allocation in
    let cert = cert_line agent (length (tree_lines scored.tree)) ∷ tree_lines scored.tree in
    sym (
    flat_map-cons (λ l. l ++ 10 ∷ []) (score_line agent scored) (packages ++ cert)
    ∙ ap (λ (t : List ℕ). (score_line agent scored ++ 10 ∷ []) ++ t) (flat_map-append (λ l. l ++ 10 ∷ []) packages cert)
    )

score_took : (agent : ℕ) (left : Remaining) (x : Scored × Remaining) → AreLines left → score_in agent left ≡ Ok x → TookPart (λ scored. text_of (agent_lines agent scored)) IsLoggedScore left x
unfolding score_in
score_took agent left x are e =
    let a = bind_ok (line_by (read_score agent) left) _ x e in
    let b = bind_ok (repeat 8 0 (λ client. line_by (package_of agent client)) a.0.1) _ x a.2 in
    let c = bind_ok (cert_in agent b.0.1) _ x b.2 in
    let r = line_took (read_score agent) left a.0 a.1 in
    let is = score_is agent r.0 a.0.0 r.2 in
    let packages = repeat_took_bytes (λ client. line_by (package_of agent client)) (λ client p. text_of (package_line agent client p ∷ [])) (λ _ p. IsPackage p) (package_takes agent) 8 0 a.0.1 b.0 (r.1.lines are) b.1 in
    let cert = cert_took agent b.0.1 c.0 (packages.0.took.lines (r.1.lines are)) c.1 in
    let scored = made_scored a.0.0 b.0.0 c.0.0 in
    subst (TookPart (λ s. text_of (agent_lines agent s)) IsLoggedScore left) (ok_is {E = BadLine} (scored, c.0.1) x c.2) (record {
      took = took_as left c.0.1 _ _ (agent_text agent scored) (took_both left a.0.1 c.0.1 (score_line agent scored ++ 10 ∷ []) (text_of (lines_of_parts (one_line (package_line agent)) 0 b.0.0) ++ agents_cert_text agent c.0.0)
          (took_as left a.0.1 (r.0 ++ 10 ∷ []) (score_line agent scored ++ 10 ∷ []) (ap (λ (t : List ℕ). t ++ 10 ∷ []) is.text) r.1)
          (took_both a.0.1 b.0.1 c.0.1 (text_of (lines_of_parts (one_line (package_line agent)) 0 b.0.0)) (agents_cert_text agent c.0.0)
          (took_as a.0.1 b.0.1 _ _ (parts_of_lines (one_line (package_line agent)) 0 b.0.0) packages.0.took) cert.took));
      range = record {
        best = is.best_range;
        cash = is.cash_range;
        short = is.short_range;
        score = is.score_range;
        eight = packages.1;
        packages = all_of IsPackage 0 b.0.0 packages.0.each;
        certificate = cert.range.fits;
        lines = cert.range.few;
      };
    })

score_takes : TakesBytes score_in (λ agent scored. text_of (agent_lines agent scored)) (λ _ s. IsLoggedScore s)
unfolding TakesBytes
score_takes agent left x are e = let part = score_took agent left x are e in (part.took, part.range)

-- ---- the log

histories_are : (from : ℕ) (histories : List (List Entry)) → AllFrom IsHistory from histories → AreHistories from histories
histories_are from [] h = tt
histories_are from (history ∷ histories) h = (h.0, histories_are (from + 1) histories h.1)

abbrev made_log : Head → List (List Entry) → List CashEntry → List Scored → LoggedGame
made_log head histories cash scores = record { head = head; histories = histories; cash = cash; scores = scores }

-- what was read of a whole text
record TookLog (left : Remaining) (log : LoggedGame) : Type 0 where
  bytes : bytes_left left ≡ logged_text log
  ended : left.ended ≡ true
  range : IsLogged log

log_took : (left : Remaining) (log : LoggedGame) → AreLines left → log_in left ≡ Ok log → TookLog left log
unfolding log_in
log_took left log are e =
    let a = bind_ok (head_in left) _ log e in
    let b = bind_ok (repeat 28 0 history_in a.0.1) _ log a.2 in
    let c = bind_ok (cash_in b.0.1) _ log b.2 in
    let d = bind_ok (line_by (is_text (codes "sheet")) c.0.1) _ log c.2 in
    let f = bind_ok (repeat 8 0 score_in d.0.1) _ log d.2 in
    let g = bind_ok (line_by (is_text (codes "end")) f.0.1) _ log f.2 in
    let h = bind_ok (nothing_left g.0.1) _ log g.2 in
    let head = head_took left a.0 are a.1 in
    let are1 = head.took.lines are in
    let histories = repeat_took_bytes history_in (λ good history. auction_text good history) IsHistory history_takes 28 0 a.0.1 b.0 are1 b.1 in
    let are2 = histories.0.took.lines are1 in
    let cash = cash_took b.0.1 c.0 are2 c.1 in
    let sheet = text_took (codes "sheet") c.0.1 d.0 d.1 in
    let are3 = sheet.lines (cash.took.lines are2) in
    let scores = repeat_took_bytes score_in (λ agent scored. text_of (agent_lines agent scored)) (λ _ s. IsLoggedScore s) score_takes 8 0 d.0.1 f.0 are3 f.1 in
    let end = text_took (codes "end") f.0.1 g.0 g.1 in
    let agents = bytes_of_parts (λ agent scored. text_of (agent_lines agent scored)) 0 f.0.0 in
    let last = took_as c.0.1 g.0.1 _ _ (sym (sheet_text f.0.0)) (took_both c.0.1 d.0.1 g.0.1 (codes "sheet" ++ 10 ∷ []) (agents ++ (codes "end" ++ 10 ∷ [])) sheet
    (took_both d.0.1 f.0.1 g.0.1 agents (codes "end" ++ 10 ∷ []) scores.0.took end)) in
    let middle = took_both a.0.1 c.0.1 g.0.1 (histories_text b.0.0 c.0.0) (sheet_part f.0.0)
    (took_both a.0.1 b.0.1 c.0.1 (flat_map (λ auction. auction_text auction.0 auction.1) (enumerate_from 0 b.0.0)) (cash_text c.0.0) (took_as a.0.1 b.0.1 _ _ (parts_numbered auction_text 0 b.0.0) histories.0.took) cash.took) last in
    let all = took_text left g.0.1 (logged_text (made_log a.0.0 b.0.0 c.0.0 f.0.0)) h.0 (took_both left a.0.1 g.0.1 (first_lines a.0.0) (histories_text b.0.0 c.0.0 ++ sheet_part f.0.0) head.took middle) h.1 in
    subst (TookLog left) (ok_is {E = BadLine} (made_log a.0.0 b.0.0 c.0.0 f.0.0) log h.2) (record {
      bytes = all.0;
      ended = all.1;
      range = record {
        head = head.range;
        goods = histories.1;
        histories = histories_are 0 b.0.0 histories.0.each;
        few_cash = cash.range.few;
        cash = cash.range.each;
        agents = scores.1;
        scores = all_of IsLoggedScore 0 f.0.0 scores.0.each;
      };
    })

-- ---- a text

part_lacks_onto : (byte : ℕ) (parts : List (List ℕ)) → eqb byte 10 ≡ false → AllByRecursion (Lacks 10) parts → AllByRecursion (Lacks 10) (onto_first byte parts)
part_lacks_onto byte [] other h = ((other, tt), tt)
part_lacks_onto byte (part ∷ parts) other h = ((other, h.0), h.1)

part_lacks_by : (b : Bool) (byte : ℕ) (parts : List (List ℕ)) → eqb byte 10 ≡ b → AllByRecursion (Lacks 10) parts → AllByRecursion (Lacks 10) (cond b ([] ∷ parts) (onto_first byte parts))
part_lacks_by true byte parts e h = (tt, h)
part_lacks_by false byte parts e h = part_lacks_onto byte parts e h

pub part_lacks : (text : List ℕ) → AllByRecursion (Lacks 10) (parts_of 10 text)
part_lacks [] = (tt, tt)
part_lacks (byte ∷ text) = part_lacks_by (eqb byte 10) byte (parts_of 10 text) refl (part_lacks text)

pub lines_lack : (number : ℕ) (parts : List (List ℕ)) → AllByRecursion (Lacks 10) parts → AreLines (lines_from false number parts)
lines_lack number [] h = tt
lines_lack number (rest ∷ []) h = tt
lines_lack number (line ∷ next ∷ parts) h = (h.0, lines_lack (number + 1) (next ∷ parts) h.1)

-- a log that is read of a text is the text's
pub record IsLogText (text : List ℕ) (log : LoggedGame) : Type 0 where
  pub same : text ≡ logged_text log
  pub range : IsLogged log

pub log_is : (text : List ℕ) (log : LoggedGame) → log_in (lines_from false 1 (parts_of 10 text)) ≡ Ok log → IsLogText text log
log_is text log e =
    let took = log_took (lines_from false 1 (parts_of 10 text)) log (lines_lack 1 (parts_of 10 text) (part_lacks text)) e in
    record { same = whole_text text took.ended ∙ took.bytes; range = took.range }
