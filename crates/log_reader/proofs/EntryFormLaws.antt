-- The lines of the histories are read as they are spelled.
use Rattle.std.proofs.Common.{◌≡◌, ℕ, ◌^◌, ◌≤◌, ◌<◌, true, cond, eqb, List, [], ◌∷◌, ◌++◌, Option, Some, None, Result, Ok, Err, refl, sym, ap, ◌∙◌, subst, append_assoc, arith, ℤ, pos, decimal, lit<, lit≤, inl, inr, eq-eqb, eqb-true, ◌+◌, codes, bytes_eq}
use Rattle.std.specs.List.{join_with_byte}
use Rattle.std.proofs.lemmas.Option.{cond_some, same_Some}
use Rattle.std.proofs.lemmas.Fmt.{decimal_digit}
use Rattle.std.proofs.lemmas.List.Splits.{join_with_byte-slice_split}
use Rattle.log_reader.specs.{Point, BidFault, Call, Reply, Trade, IsCall, IsReply, IsTrade, parts_of, words_of, row_text, points_of, judged, reply_text, call_text, entry_line, digit_of, read_numbers, number_at, auction_of, trade_of, bid_by, read_update, word_call, call_of_words, read_call, read_caller, sides_of, read_entry, read_cash_line}
use Rattle.tac_base.specs.declared.calls.Call.TheVariants as calls
use Rattle.tac_base.proofs.Signed.{decimal_lacks}
use Rattle.text_forms.proofs.Joins.{joined_parts}
use Rattle.text_forms.proofs.Columns.{in_within}
use Rattle.bid_strings.specs.Spelling.{spelling}
use Rattle.bid_strings.proofs.Laws.{bid_is, bid_again}
use Rattle.line_protocol.specs.Ranges.{IsReplyText}
use Rattle.line_protocol.specs.ReplyForms.{◌>>=◌, answer_of}
use Rattle.line_protocol.proofs.JoinedWords.{lacks, words_before, has_words}
use Rattle.line_protocol.proofs.Numbers.{bound, either_way, is_word}
use Rattle.line_protocol.proofs.RequestLaws.{judged_good}
use Rattle.line_protocol.proofs.ReplyRead.{answer_if}
use Rattle.line_protocol.proofs.ReplyAgain.{answer_again}
use Rattle.log_text.proofs.Cuts.{lacks_append}
use Rattle.log_text.proofs.Answered.{call_lacks}
use Rattle.log_text.proofs.ShownNumbers.{logged_call}
use Rattle.log_reader.proofs.RowForms.{digit_is, digit_again, numbers_is, numbers_again, Within, columns_of, each_within, one_number, two_numbers}
use Rattle.log_reader.proofs.Sides.{sides_is, sides_again}

-- ---- the line before the entries of an auction

abbrev pub auction_body : ℕ → ℕ → List ℕ
auction_body good count = row_text (codes "auction") (pos good ∷ pos count ∷ [])

pub auction_is : (good : ℕ) (line : List ℕ) (count : ℕ) → auction_of good line ≡ Some count → (line ≡ auction_body good count) × (count ≤ 8256)
unfolding auction_of
auction_is good line count h =
    let columns = columns_of ((0, 27) ∷ (0, 8256) ∷ []) in
    let b = bound (read_numbers (codes "auction") columns line) (λ numbers. cond (eqb (number_at numbers 0) good) (Some (number_at numbers 1)) None) count h in
    let r = numbers_is (codes "auction") columns line b.0 b.1 in
    let two = two_numbers 0 27 0 8256 b.0 (each_within ((0, 27) ∷ (0, 8256) ∷ []) b.0 r.count r.range) in
    let c = cond_some (eqb (number_at b.0 0) good) (number_at b.0 1) count b.2 in (
      r.text ∙ ap (row_text (codes "auction")) two.whole ∙ (λ i. auction_body (eqb-true (number_at b.0 0) good c.0 i) (c.1 i)),
      subst (λ (n : ℕ). n ≤ 8256) c.1 two.second,
    )

pub auction_again : (good count : ℕ) → good ≤ 27 → count ≤ 8256 → auction_of good (auction_body good count) ≡ Some count
unfolding auction_of
auction_again good count low few =
    let columns = columns_of ((0, 27) ∷ (0, 8256) ∷ []) in
    let read = numbers_again (codes "auction") columns (pos good ∷ pos count ∷ []) (lacks 32 (codes "auction") refl) refl refl (rw (in_within 0 27 good (omega arith) low, in_within 0 8256 count (omega arith) few) refl) in
    rw (read, eq-eqb good good refl) refl

-- ---- trades

abbrev pub trade_body : Trade → List ℕ
trade_body t = row_text (codes "trade") (pos t.buyer ∷ pos t.seller ∷ pos t.units ∷ pos t.price ∷ [])

abbrev made_trade : ℕ → List ℤ → Trade
made_trade good numbers = record { buyer = number_at numbers 0; seller = number_at numbers 1; good = good; units = number_at numbers 2; price = number_at numbers 3 }

trade_numbers : (good : ℕ) (numbers : List ℤ) → Within ((0, 8) ∷ (0, 8) ∷ (1, 16) ∷ (0, 10000) ∷ []) numbers → (row_text (codes "trade") numbers ≡ trade_body (made_trade good numbers)) × IsTrade good (made_trade good numbers)
trade_numbers good [] h = absurd h
trade_numbers good (a ∷ []) h = absurd h.1
trade_numbers good (a ∷ b ∷ []) h = absurd h.1.1
trade_numbers good (a ∷ b ∷ c ∷ []) h = absurd h.1.1.1
trade_numbers good (a ∷ b ∷ c ∷ d ∷ []) h = (
  λ i. row_text (codes "trade") (h.0.same i ∷ h.1.0.same i ∷ h.1.1.0.same i ∷ h.1.1.1.0.same i ∷ []),
  record { good_is = refl; buyer = h.0.most; seller = h.1.0.most; some = h.1.1.0.least; few = h.1.1.0.most; price = h.1.1.1.0.most },
)
trade_numbers good (a ∷ b ∷ c ∷ d ∷ e ∷ more) h = absurd h.1.1.1.1

pub trade_is : (good : ℕ) (line : List ℕ) (t : Trade) → trade_of good line ≡ Some t → (line ≡ trade_body t) × IsTrade good t
unfolding trade_of
trade_is good line t h =
    let ranges = (0, 8) ∷ (0, 8) ∷ (1, 16) ∷ (0, 10000) ∷ [] in
    let b = bound (read_numbers (codes "trade") (columns_of ranges) line) (λ numbers. Some (made_trade good numbers)) t h in
    let r = numbers_is (codes "trade") (columns_of ranges) line b.0 b.1 in
    let are = trade_numbers good b.0 (each_within ranges b.0 r.count r.range) in
    subst (λ (x : Trade). (line ≡ trade_body x) × IsTrade good x) (same_Some (made_trade good b.0) t b.2) (r.text ∙ are.0, are.1)

pub trade_again : (good : ℕ) (t : Trade) → IsTrade good t → trade_of good (trade_body t) ≡ Some t
unfolding trade_of
trade_again good t is =
    let ranges = (0, 8) ∷ (0, 8) ∷ (1, 16) ∷ (0, 10000) ∷ [] in
    let read = numbers_again (codes "trade") (columns_of ranges) (pos t.buyer ∷ pos t.seller ∷ pos t.units ∷ pos t.price ∷ []) (lacks 32 (codes "trade") refl) refl refl
    (rw (in_within 0 8 t.buyer (omega arith) is.buyer, in_within 0 8 t.seller (omega arith) is.seller, in_within 1 16 t.units is.some is.few, in_within 0 10000 t.price (omega arith) is.price) refl) in
    rw read (ap (λ (g : ℕ). Some (record { buyer = t.buyer; seller = t.seller; good = g; units = t.units; price = t.price })) (sym is.good_is))

-- ---- calls

known_call : (word known : List ℕ) (made call : Call) → bytes_eq word known ≡ true → Some made ≡ Some call → known ≡ call_text made → IsCall made → (word ≡ call_text call) × IsCall call
known_call word known made call same h is range =
    subst (λ (c : Call). (word ≡ call_text c) × IsCall c) (same_Some made call h) (is_word word known same ∙ is, range)

word_call_is : (word : List ℕ) (call : Call) → word_call word ≡ Some call → (word ≡ call_text call) × IsCall call
word_call_is word call h =
    elim (either_way (bytes_eq word (codes "withdraw")) (Some calls.Withdraw) _ call h) [
      | inl is ↦ known_call word (codes "withdraw") calls.Withdraw call is.0 is.1 refl tt
      | inr h ↦ elim (either_way (bytes_eq word (codes "own")) (Some calls.Own) _ call h) [
        | inl is ↦ known_call word (codes "own") calls.Own call is.0 is.1 refl tt
        | inr h ↦ elim (either_way (bytes_eq word (codes "publish")) (Some calls.Publish) _ call h) [
          | inl is ↦ known_call word (codes "publish") calls.Publish call is.0 is.1 refl tt
          | inr h ↦ elim (either_way (bytes_eq word (codes "close")) (Some calls.Close) None call h) [
            | inl is ↦ known_call word (codes "close") calls.Close call is.0 is.1 refl tt
            | inr e ↦ absurd cc
          ]
        ]
      ]
    ]

update_is : (text : List ℕ) (call : Call) → read_update text ≡ Some call → (text ≡ call_text call) × IsCall call
update_is text call h =
    let ranges = (1, 53) ∷ (0, 4294967295) ∷ [] in
    let b = bound (read_numbers (codes "update") (columns_of ranges) text) (λ numbers. Some (calls.Update (number_at numbers 0) (number_at numbers 1))) call h in
    let r = numbers_is (codes "update") (columns_of ranges) text b.0 b.1 in
    let two = two_numbers 1 53 0 4294967295 b.0 (each_within ranges b.0 r.count r.range) in
    subst (λ (c : Call). (text ≡ call_text c) × IsCall c) (same_Some (calls.Update (number_at b.0 0) (number_at b.0 1)) call b.2) (r.text ∙ ap (row_text (codes "update")) two.whole, (two.least, two.first, two.second))

bid_call_is : (text : List ℕ) (call : Call) (read : Result (List Point) BidFault) → judged (points_of text) ≡ read → bid_by read ≡ Some call → (codes "bid" ++ 32 ∷ text ≡ call_text call) × IsCall call
bid_call_is text call (Err fault) e h = absurd cc
bid_call_is text call (Ok points) e h =
    subst (λ (c : Call). (codes "bid" ++ 32 ∷ text ≡ call_text c) × IsCall c) (same_Some (calls.Bid points) call h)
    (ap (λ (t : List ℕ). codes "bid" ++ 32 ∷ t) (bid_is text points e), judged_good (points_of text) points e)

call_words_is : (text : List ℕ) (words : List (List ℕ)) (call : Call) → words_of text ≡ words → call_of_words text words ≡ Some call → (text ≡ call_text call) × IsCall call
call_words_is text [] call e h = absurd cc
call_words_is text (keyword ∷ []) call e h =
    let whole : text ≡ keyword = sym (join_with_byte-slice_split 32 text) ∙ ap (join_with_byte 32) e in
    let is = word_call_is keyword call h in
    (whole ∙ is.0, is.1)
call_words_is text (keyword ∷ word ∷ words) call e h =
    let rest = join_with_byte 32 (word ∷ words) in
    let whole : text ≡ keyword ++ 32 ∷ rest = sym (join_with_byte-slice_split 32 text) ∙ ap (join_with_byte 32) e in
    elim (either_way (bytes_eq keyword (codes "bid")) (bid_by (judged (points_of rest))) (read_update text) call h) [
      | inl is ↦
          let bid = bid_call_is rest call (judged (points_of rest)) refl is.1 in
          (whole ∙ ap (λ (w : List ℕ). w ++ 32 ∷ rest) (is_word keyword (codes "bid") is.0) ∙ bid.0, bid.1)
      | inr other ↦ update_is text call other
    ]

pub call_is : (text : List ℕ) (call : Call) → read_call text ≡ Some call → (text ≡ call_text call) × IsCall call
unfolding read_call
call_is text call h = call_words_is text (words_of text) call refl h

pub call_again : (call : Call) → IsCall call → read_call (call_text call) ≡ Some call
unfolding read_call
call_again (calls.Bid points) h =
    let w = has_words (spelling points) in
    ap (call_of_words (call_text (calls.Bid points))) (words_before (codes "bid" ∷ []) (spelling points) (lacks 32 (codes "bid") refl, tt) ∙ ap (λ (ws : List (List ℕ)). codes "bid" ∷ ws) w.2.words)
    ∙ rw (w.2.joined, bid_again points h) refl
call_again calls.Withdraw h = refl
call_again calls.Own h = refl
call_again (calls.Update tick draw) h =
    let ranges = (1, 53) ∷ (0, 4294967295) ∷ [] in
    let read = numbers_again (codes "update") (columns_of ranges) (pos tick ∷ pos draw ∷ []) (lacks 32 (codes "update") refl) refl refl
    (rw (in_within 1 53 tick h.0 h.1, in_within 0 4294967295 draw (omega arith) h.2) refl) in
    let small : tick < 2 ^ 64 = let le = h.1 in omega (arith, le) in
    let little : draw < 2 ^ 64 = let le = h.2 in omega (arith, le) in
    ap (call_of_words (call_text (calls.Update tick draw))) (joined_parts 32 (codes "update") (decimal tick ∷ decimal draw ∷ []) (lacks 32 (codes "update") refl) (decimal_lacks 32 tick (lit< tt) small, (decimal_lacks 32 draw (lit< tt) little, tt)))
    ∙ rw read refl
call_again calls.Publish h = refl
call_again calls.Close h = refl

-- ---- callers

pub caller_is : (most : ℕ) (line : List ℕ) (called : ℕ × List ℕ) → most ≤ 9 → read_caller most line ≡ Some called → (line ≡ decimal called.0 ++ 32 ∷ called.1) × (called.0 ≤ most)
caller_is most [] called small h = absurd cc
caller_is most (digit ∷ []) called small h = absurd cc
caller_is most (digit ∷ space ∷ text) called small h =
    elim (either_way (eqb space 32) (digit_of most (digit ∷ []) >>= λ caller. Some (caller, text)) None called h) [
      | inl is ↦
          let b = bound (digit_of most (digit ∷ [])) (λ caller. Some (caller, text)) called is.1 in
          let d = digit_is most (digit ∷ []) b.0 small b.1 in
          subst (λ (x : ℕ × List ℕ). (digit ∷ space ∷ text ≡ decimal x.0 ++ 32 ∷ x.1) × (x.0 ≤ most)) (same_Some (b.0, text) called b.2)
          ((λ i. digit ∷ eqb-true space 32 is.0 i ∷ text) ∙ ap (λ (w : List ℕ). w ++ 32 ∷ text) d.0, d.1)
      | inr e ↦ absurd cc
    ]

pub caller_again : (most caller : ℕ) (text : List ℕ) → most ≤ 9 → caller ≤ most → read_caller most (decimal caller ++ 32 ∷ text) ≡ Some (caller, text)
caller_again most caller text small le =
    let digit : decimal caller ≡ (48 + caller) ∷ [] = decimal_digit caller (omega (arith, le, small)) in
    let read : digit_of most ((48 + caller) ∷ []) ≡ Some caller = sym (ap (digit_of most) digit) ∙ digit_again most caller small le in
    ap (λ (w : List ℕ). read_caller most (w ++ 32 ∷ text)) digit ∙ rw read refl

-- ---- entries

abbrev pub entry_body : ℕ → Call → Reply → List ℕ
entry_body caller call reply = decimal caller ++ 32 ∷ ((call_text call ++ 32 ∷ []) ++ 61 ∷ 32 ∷ reply_text reply)

pub entry_end : (caller : ℕ) (call : Call) (reply : Reply) → entry_body caller call reply ++ 10 ∷ [] ≡ entry_line caller call reply
entry_end caller call reply = simp append_assoc

-- a line of an entry in its ranges
pub record IsEntryLine (line : List ℕ) (caller : ℕ) (call : Call) (reply : Reply) : Type 0 where
  pub text : line ≡ entry_body caller call reply
  pub caller_range : caller ≤ 8
  pub call_range : IsCall call
  pub reply_range : IsReply reply

answered : (text : List ℕ) (read : Option Reply) (reply : Reply) → answer_of text ≡ read → read ≡ Some reply → IsReplyText text reply
answered text read reply e h = answer_if text (Some reply) (sym (e ∙ h))

pub entry_is : (line : List ℕ) (entry : ℕ × Call × Reply) → read_entry line ≡ Some entry → IsEntryLine line entry.0 entry.1 entry.2
unfolding read_entry
entry_is line entry h =
    let a = bound (read_caller 8 line) (λ called. sides_of (parts_of 61 called.1) >>= λ sides. read_call sides.0 >>= λ call. answer_of sides.1 >>= λ reply. Some (called.0, call, reply)) entry h in
    let s = bound (sides_of (parts_of 61 a.0.1)) (λ sides. read_call sides.0 >>= λ call. answer_of sides.1 >>= λ reply. Some (a.0.0, call, reply)) entry a.2 in
    let c = bound (read_call s.0.0) (λ call. answer_of s.0.1 >>= λ reply. Some (a.0.0, call, reply)) entry s.2 in
    let r = bound (answer_of s.0.1) (λ reply. Some (a.0.0, c.0, reply)) entry c.2 in
    let caller = caller_is 8 line a.0 (lit≤ tt) a.1 in
    let sides = sides_is a.0.1 s.0.0 s.0.1 s.1 in
    let call = call_is s.0.0 c.0 c.1 in
    let reply = answered s.0.1 (answer_of s.0.1) r.0 refl r.1 in
    subst (λ (x : ℕ × Call × Reply). IsEntryLine line x.0 x.1 x.2) (same_Some (a.0.0, c.0, r.0) entry r.2)
    (record {
      text = caller.0 ∙ ap (λ (t : List ℕ). decimal a.0.0 ++ 32 ∷ t) (sides ∙ (λ i. (call.0 i ++ 32 ∷ []) ++ 61 ∷ 32 ∷ reply.text i));
      caller_range = caller.1;
      call_range = call.1;
      reply_range = reply.range;
    })

pub entry_again : (caller : ℕ) (call : Call) (reply : Reply) → caller ≤ 8 → IsCall call → IsReply reply → read_entry (entry_body caller call reply) ≡ Some (caller, call, reply)
unfolding read_entry
entry_again caller call reply low called replied =
    let text = (call_text call ++ 32 ∷ []) ++ 61 ∷ 32 ∷ reply_text reply in
    let sides = sides_again (call_text call) (reply_text reply) (lacks_append 61 (call_text call) (32 ∷ []) (call_lacks call (logged_call call called)) (refl, tt)) in
    rw (caller_again 8 caller text (lit≤ tt) low, sides, call_again call called, answer_again (reply_text reply) reply (record { range = replied; text = refl })) refl

-- ---- the line before the cash entries

abbrev pub cash_body : ℕ → List ℕ
cash_body count = row_text (codes "cash") (pos count ∷ [])

pub cash_is : (line : List ℕ) (count : ℕ) → read_cash_line line ≡ Some count → (line ≡ cash_body count) × (count ≤ 238048)
unfolding read_cash_line
cash_is line count h =
    let ranges = (0, 238048) ∷ [] in
    let b = bound (read_numbers (codes "cash") (columns_of ranges) line) (λ numbers. Some (number_at numbers 0)) count h in
    let r = numbers_is (codes "cash") (columns_of ranges) line b.0 b.1 in
    let one = one_number 0 238048 b.0 (each_within ranges b.0 r.count r.range) in
    subst (λ (m : ℕ). (line ≡ cash_body m) × (m ≤ 238048)) (same_Some (number_at b.0 0) count b.2) (r.text ∙ ap (row_text (codes "cash")) one.0, one.1)

pub cash_again : (count : ℕ) → count ≤ 238048 → read_cash_line (cash_body count) ≡ Some count
unfolding read_cash_line
cash_again count le =
    let read = numbers_again (codes "cash") (columns_of ((0, 238048) ∷ [])) (pos count ∷ []) (lacks 32 (codes "cash") refl) refl refl (rw (in_within 0 238048 count (omega arith) le) refl) in
    rw read refl
