-- The lines of the cash history are read as they are spelled.
use Rattle.std.proofs.Common.{◌≡◌, ℕ, zero, suc, ◌^◌, ◌≤◌, ◌<◌, Bool, true, false, cond, ◌&&◌, eqb, List, [], ◌∷◌, ◌++◌, Option, Some, None, length, map, drop, refl, sym, ap, ◌∙◌, subst, arith, ℤ, pos, decimal, lit<, lit≤, inl, inr, ne_eqb, codes, unsigned_abs, replicate, bytes_eq, All}
use Rattle.std.specs.Fmt.{signed_decimal}
use Rattle.std.specs.List.{AllByRecursion, join_with_byte}
use Rattle.std.proofs.lemmas.Bool.Decides.{nat_tests}
use Rattle.std.proofs.lemmas.Option.{same_Some}
use Rattle.std.proofs.lemmas.List.Elements.{All-nil, All-cons, All-head, All-tail, All-weaker, recursion_from_All}
use Rattle.std.proofs.lemmas.List.Splits.{join_with_byte-slice_split}
use Rattle.tac_base.specs.declared.calls.Nets.{Nets}
use Rattle.log_reader.specs.{signed_numeral, IsNet, words_of, within, is_in, all_in, row_text, Post, Read, Done, Cash, CashEntry, cash_entry_line, IsSigned, FitsCall, IsLoggedCash, IsLoggedCashEntry, read_numbers, number_at, net_column, post_columns, made_post, post_of, read_of, read_reading, first_is, starts_post, cash_entry_by, cash_entry_of, read_caller}
use Rattle.tac_base.proofs.NumeralLaws.{both_true}
use Rattle.tac_base.proofs.Signed.{Lacks, signed_is, signed_limit, signed_lacks}
use Rattle.text_forms.proofs.Joins.{joined_parts}
use Rattle.text_forms.proofs.Columns.{in_column, in_from, is_within, in_within}
use Rattle.text_forms.proofs.RowLaws.{numbers_lack}
use Rattle.trade_ledger.specs.declared.cash_calls.CashCall.{CashCall}
use Rattle.trade_ledger.specs.declared.cash_calls.CashReply.{CashReply}
use Rattle.line_protocol.specs.ReplyForms.{◌>>=◌}
use Rattle.line_protocol.proofs.JoinedWords.{lacks}
use Rattle.line_protocol.proofs.Numbers.{bound, either_way, is_word, dollars_again}
use Rattle.log_text.proofs.Cuts.{IsWord, line_lacks}
use Rattle.log_text.proofs.Histories.{cash_words, cash_row, cash_are}
use Rattle.log_text.proofs.ShownNumbers.{net_is}
use Rattle.log_reader.proofs.RowForms.{numbers_is, numbers_again}
use Rattle.log_reader.proofs.EntryFormLaws.{caller_is, caller_again}

-- ---- nets

nets_in : (n : ℕ) (dollars : List ℤ) → length dollars ≡ n → all_in (replicate n net_column) dollars ≡ true → All IsNet dollars
nets_in zero [] count h = All-nil IsNet
nets_in zero (z ∷ zs) count h = absurd (omega (arith, count))
nets_in (suc n) [] count h = absurd (omega (arith, count))
nets_in (suc n) (z ∷ zs) count h =
    let both = both_true (is_in net_column z) (all_in (replicate n net_column) zs) h in
    let one = in_column net_column z both.0 in
    All-cons IsNet z zs (record { low = one.low; high = one.high }) (nets_in n zs (omega (arith, count)) both.1)

nets_again : (n : ℕ) (dollars : List ℤ) → length dollars ≡ n → All IsNet dollars → all_in (replicate n net_column) dollars ≡ true
nets_again zero [] count h = refl
nets_again zero (z ∷ zs) count h = absurd (omega (arith, count))
nets_again (suc n) [] count h = absurd (omega (arith, count))
nets_again (suc n) (z ∷ zs) count h =
    let one = All-head IsNet z zs h in
    rw (in_from net_column z one.low one.high) (nets_again n zs (omega (arith, count)) (All-tail IsNet z zs h))

-- ---- posts

abbrev pub post_body : ℕ → ℕ → List ℤ → List ℕ
post_body good position dollars = row_text (codes "post") (pos good ∷ pos position ∷ dollars)

-- what the numbers of a post are
record ArePost (numbers : List ℤ) : Type 0 where
  whole : row_text (codes "post") numbers ≡ post_body (number_at numbers 0) (number_at numbers 1) (drop 2 numbers)
  good : number_at numbers 0 ≤ 27
  position : number_at numbers 1 ≤ 8255
  count : length (drop 2 numbers) ≡ 9
  nets : All IsNet (drop 2 numbers)

post_numbers : (numbers : List ℤ) → length numbers ≡ 11 → all_in post_columns numbers ≡ true → ArePost numbers
post_numbers [] count h = absurd (omega (arith, count))
post_numbers (a ∷ []) count h = absurd (omega (arith, count))
post_numbers (a ∷ b ∷ dollars) count h =
    let first = both_true (is_in (within 0 27) a) (is_in (within 0 8255) b && all_in (replicate 9 net_column) dollars) h in
    let second = both_true (is_in (within 0 8255) b) (all_in (replicate 9 net_column) dollars) first.1 in
    let good = is_within 0 27 a first.0 in
    let position = is_within 0 8255 b second.0 in
    let nine : length dollars ≡ 9 = omega (arith, count) in
    record {
      whole = λ i. row_text (codes "post") (good.same i ∷ position.same i ∷ dollars);
      good = good.most;
      position = position.most;
      count = nine;
      nets = nets_in 9 dollars nine second.1;
    }

-- the line of an entry of the cash history
abbrev pub cash_call_body : CashCall → CashReply → List ℕ
cash_call_body (Post good position nets) reply = post_body good position nets.dollars
cash_call_body (Read agent) Done = []
cash_call_body (Read agent) (Cash dollars) = join_with_byte 32 (codes "read" ∷ codes "=" ∷ signed_decimal dollars ∷ [])

abbrev pub cash_entry_body : CashEntry → List ℕ
cash_entry_body e = decimal e.caller ++ 32 ∷ cash_call_body e.call e.reply

body_is : (caller : ℕ) (call : CashCall) (reply : CashReply) → IsLoggedCash caller call reply → decimal caller ++ 32 ∷ cash_call_body call reply ≡ join_with_byte 32 (cash_words caller call reply)
body_is caller (Post good position nets) Done h = refl
body_is caller (Post good position nets) (Cash dollars) h = absurd h
body_is caller (Read agent) Done h = absurd h
body_is caller (Read agent) (Cash dollars) h = refl

fits : (caller : ℕ) (call : CashCall) (reply : CashReply) → IsLoggedCash caller call reply → FitsCall caller call reply
fits caller (Post good position nets) Done h = tt
fits caller (Post good position nets) (Cash dollars) h = h
fits caller (Read agent) Done h = h
fits caller (Read agent) (Cash dollars) h = h.1

pub cash_entry_end : (e : CashEntry) → IsLoggedCashEntry e → cash_entry_body e ++ 10 ∷ [] ≡ cash_entry_line e
cash_entry_end e h = ap (λ (t : List ℕ). t ++ 10 ∷ []) (body_is e.caller e.call e.reply h) ∙ sym (cash_row e.caller e.call e.reply (fits e.caller e.call e.reply h))

words_are : (caller : ℕ) (call : CashCall) (reply : CashReply) → IsLoggedCash caller call reply → AllByRecursion IsWord (cash_words caller call reply)
words_are caller (Post good position nets) Done h =
    let low = h.0 in
    let there = h.1 in
    let place = h.2 in
    cash_are caller (Post good position nets) Done (omega (arith, low)) (omega (arith, there), omega (arith, place), recursion_from_All IsSigned nets.dollars (All-weaker IsNet IsSigned net_is nets.dollars h.4)) tt
words_are caller (Post good position nets) (Cash dollars) h = absurd h
words_are caller (Read agent) Done h = absurd h
words_are caller (Read agent) (Cash dollars) h =
    let low = h.0 in
    let few = h.2 in
    cash_are caller (Read agent) (Cash dollars) (omega (arith, low)) tt (omega (arith, few))

-- it has no line end within it
pub cash_entry_lacks : (e : CashEntry) → IsLoggedCashEntry e → Lacks 10 (cash_entry_body e)
cash_entry_lacks e h = subst (Lacks 10) (sym (body_is e.caller e.call e.reply h)) (line_lacks (cash_words e.caller e.call e.reply) (words_are e.caller e.call e.reply h))

-- the text of an entry of a caller, in its ranges
record IsCashText (caller : ℕ) (text : List ℕ) (e : CashEntry) : Type 0 where
  caller_same : e.caller ≡ caller
  text_is : text ≡ cash_call_body e.call e.reply
  range : IsLoggedCashEntry e

post_is : (caller : ℕ) (text : List ℕ) (e : CashEntry) → caller ≤ 8 → post_of caller text ≡ Some e → IsCashText caller text e
post_is caller text e low h =
    let b = bound (read_numbers (codes "post") post_columns text) (λ numbers. Some (made_post caller numbers)) e h in
    let r = numbers_is (codes "post") post_columns text b.0 b.1 in
    let are = post_numbers b.0 r.count r.range in
    subst (IsCashText caller text) (same_Some (made_post caller b.0) e b.2)
    (record { caller_same = refl; text_is = r.text ∙ are.whole; range = (low, are.good, are.position, are.count, are.nets) })

abbrev made_reading : ℕ → ℤ → CashEntry
made_reading agent dollars = record { caller = agent; call = Read agent; reply = Cash dollars }

read_is : (agent : ℕ) (keyword sign word : List ℕ) (e : CashEntry) → agent ≤ 7 → read_of agent keyword sign word ≡ Some e → IsCashText agent (join_with_byte 32 (keyword ∷ sign ∷ word ∷ [])) e
read_is agent keyword sign word e low h =
    elim (either_way (bytes_eq keyword (codes "read") && bytes_eq sign (codes "=")) (signed_numeral 18 word >>= λ dollars. Some (made_reading agent dollars)) None e h) [
      | inl is ↦
          let both = both_true (bytes_eq keyword (codes "read")) (bytes_eq sign (codes "=")) is.0 in
          let b = bound (signed_numeral 18 word) (λ dollars. Some (made_reading agent dollars)) e is.1 in
          let text : join_with_byte 32 (keyword ∷ sign ∷ word ∷ []) ≡ cash_call_body (Read agent) (Cash b.0) =
          (λ i. join_with_byte 32 (is_word keyword (codes "read") both.0 i ∷ is_word sign (codes "=") both.1 i ∷ signed_is 18 word b.0 (lit≤ tt) b.1 i ∷ [])) in
          subst (IsCashText agent (join_with_byte 32 (keyword ∷ sign ∷ word ∷ []))) (same_Some (made_reading agent b.0) e b.2)
          (record { caller_same = refl; text_is = text; range = (low, refl, signed_limit 18 18 word b.0 (lit≤ tt) b.1) })
      | inr n ↦ absurd cc
    ]

reading_is : (agent : ℕ) (words : List (List ℕ)) (e : CashEntry) → agent ≤ 7 → read_reading agent words ≡ Some e → IsCashText agent (join_with_byte 32 words) e
reading_is agent [] e low h = absurd cc
reading_is agent (keyword ∷ []) e low h = absurd cc
reading_is agent (keyword ∷ sign ∷ []) e low h = absurd cc
reading_is agent (keyword ∷ sign ∷ word ∷ []) e low h = read_is agent keyword sign word e low h
reading_is agent (keyword ∷ sign ∷ word ∷ other ∷ words) e low h = absurd cc

-- a caller that is not the clock is an agent
agent_by : (b : Bool) (caller : ℕ) (read : Option CashEntry) (e : CashEntry) → caller ≤ 8 → eqb caller 8 ≡ b → cond b None read ≡ Some e → (caller ≤ 7) × (read ≡ Some e)
agent_by true caller read e low test h = absurd cc
agent_by false caller read e low test h = (low_by caller low test, h)
  where
    low_by : (n : ℕ) → n ≤ 8 → eqb n 8 ≡ false → n ≤ 7
    low_by n le t = grind (arith, nat_tests)

cash_text_is : (caller : ℕ) (text : List ℕ) (e : CashEntry) → caller ≤ 8 → cash_entry_by caller text ≡ Some e → IsCashText caller text e
cash_text_is caller text e low h =
    elim (either_way (starts_post text) (post_of caller text) (cond (eqb caller 8) None (read_reading caller (words_of text))) e h) [
      | inl is ↦ post_is caller text e low is.1
      | inr other ↦
          let agent = agent_by (eqb caller 8) caller (read_reading caller (words_of text)) e low refl other in
          subst (λ (t : List ℕ). IsCashText caller t e) (join_with_byte-slice_split 32 text) (reading_is caller (words_of text) e agent.0 agent.1)
    ]

pub cash_entry_is : (line : List ℕ) (e : CashEntry) → cash_entry_of line ≡ Some e → (line ≡ cash_entry_body e) × IsLoggedCashEntry e
unfolding cash_entry_of
cash_entry_is line e h =
    let a = bound (read_caller 8 line) (λ called. cash_entry_by called.0 called.1) e h in
    let caller = caller_is 8 line a.0 (lit≤ tt) a.1 in
    let is = cash_text_is a.0.0 a.0.1 e caller.1 a.2 in
    (caller.0 ∙ (λ i. decimal (sym is.caller_same i) ++ 32 ∷ is.text_is i), is.range)

-- ---- and again

post_words : (numbers : List ℤ) → length numbers ≡ 11 → all_in post_columns numbers ≡ true → words_of (row_text (codes "post") numbers) ≡ codes "post" ∷ map signed_decimal numbers
post_words numbers count range = joined_parts 32 (codes "post") (map signed_decimal numbers) (lacks 32 (codes "post") refl) (numbers_lack post_columns numbers refl count range 32 (lit< tt))

post_again : (caller good position : ℕ) (nets : Nets) → good ≤ 27 → position ≤ 8255 → length nets.dollars ≡ 9 → All IsNet nets.dollars →
    cash_entry_by caller (post_body good position nets.dollars) ≡ Some (record { caller = caller; call = Post good position nets; reply = Done })
post_again caller good position nets low place nine are =
    let numbers = pos good ∷ pos position ∷ nets.dollars in
    let count : length numbers ≡ 11 = omega (arith, nine) in
    let range : all_in post_columns numbers ≡ true = rw (in_within 0 27 good (omega arith) low, in_within 0 8255 position (omega arith) place) (nets_again 9 nets.dollars nine are) in
    let starts : starts_post (post_body good position nets.dollars) ≡ true = ap (first_is (codes "post")) (post_words numbers count range) in
    let read = numbers_again (codes "post") post_columns numbers (lacks 32 (codes "post") refl) refl count range in
    rw (starts, read) refl

reading_again : (agent : ℕ) (dollars : ℤ) → agent ≤ 7 → unsigned_abs dollars < 10 ^ 18 → cash_entry_by agent (cash_call_body (Read agent) (Cash dollars)) ≡ Some (made_reading agent dollars)
reading_again agent dollars low few =
    let words : words_of (cash_call_body (Read agent) (Cash dollars)) ≡ codes "read" ∷ codes "=" ∷ signed_decimal dollars ∷ [] =
    joined_parts 32 (codes "read") (codes "=" ∷ signed_decimal dollars ∷ []) (lacks 32 (codes "read") refl) (lacks 32 (codes "=") refl, (signed_lacks 32 dollars (lit< tt) (omega (arith, few)), tt)) in
    let clock : eqb agent 8 ≡ false = ne_eqb agent 8 (λ e. absurd (omega (arith, e, low))) in
    rw (words, clock, dollars_again dollars few) refl

made_entry : ℕ → CashCall → CashReply → CashEntry
made_entry caller call reply = record { caller = caller; call = call; reply = reply }

cash_again_by : (caller : ℕ) (call : CashCall) (reply : CashReply) → IsLoggedCash caller call reply → cash_entry_of (decimal caller ++ 32 ∷ cash_call_body call reply) ≡ Some (made_entry caller call reply)
unfolding cash_entry_of made_entry
cash_again_by caller (Post good position nets) Done h = rw (caller_again 8 caller (post_body good position nets.dollars) (lit≤ tt) h.0) (post_again caller good position nets h.1 h.2 h.3 h.4)
cash_again_by caller (Post good position nets) (Cash dollars) h = absurd h
cash_again_by caller (Read agent) Done h = absurd h
cash_again_by caller (Read agent) (Cash dollars) h =
    let low : caller ≤ 8 = let le = h.0 in omega (arith, le) in
    let read : cash_entry_of (decimal caller ++ 32 ∷ cash_call_body (Read agent) (Cash dollars)) ≡ Some (made_entry caller (Read caller) (Cash dollars)) =
    rw (caller_again 8 caller (cash_call_body (Read agent) (Cash dollars)) (lit≤ tt) low) (reading_again caller dollars h.0 h.2) in
    let agent_is : ◌≡◌ {A = Option CashEntry} (Some (made_entry caller (Read caller) (Cash dollars))) (Some (made_entry caller (Read agent) (Cash dollars))) = ap (λ (a : ℕ). Some (made_entry caller (Read a) (Cash dollars))) (sym h.1) in
    read ∙ agent_is

pub cash_entry_again : (e : CashEntry) → IsLoggedCashEntry e → cash_entry_of (cash_entry_body e) ≡ Some e
unfolding made_entry
cash_entry_again e h = cash_again_by e.caller e.call e.reply h
