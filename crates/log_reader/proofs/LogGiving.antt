-- A log in its ranges is read as itself.
use Rattle.std.proofs.Common.{◌≡◌, ℕ, ◌^◌, ◌+◌, ◌≤◌, ◌<◌, Bool, true, false, List, [], ◌∷◌, ◌++◌, Ok, length, refl, sym, ap, ◌∙◌, append_assoc, arith, decimal, lit<, inl, inr, codes, bytes_eq, All, flat_map}
use Rattle.std.specs.List.{AllByRecursion, enumerate_from}
use Rattle.std.proofs.lemmas.Fmt.{decimal_digit}
use Rattle.std.proofs.lemmas.List.Concat.{flat_map-cons}
use Rattle.std.proofs.lemmas.List.Elements.{All-head, All-tail}
use Rattle.log_reader.specs.{TEXT_BYTES, Call, Reply, IsCall, IsReply, IsTrade, IsEntry, IsHistory, CashEntry, words_of, repeat, Verdict, Cause, Head, Play, Serve, reply_text, is_text, read_link, read_end, read_missed, first_is, auction_of, trade_of, read_entry, read_cash_line, cash_entry_of, line_by, begins, as_long_as, is_served, served_in, head_in, entry_in, history_in, cash_in}
use Rattle.tac_base.proofs.Signed.{Lacks, decimal_lacks}
use Rattle.auction_rules.specs.History.{Entry}
use Rattle.text_forms.proofs.Joins.{parts_more}
use Rattle.text_forms.proofs.RowLaws.{is_same}
use Rattle.line_protocol.proofs.JoinedWords.{lacks, same_or_not}
use Rattle.log_text.specs.{call_text, cause_text, link_line, end_line, missed_line, first_lines, auction_line, trade_line, entry_line, entry_text, auction_text, cash_line, cash_entry_line, cash_text, histories_text, IsLoggedVerdict, IsLoggedEnd, IsServedHead, IsLoggedHead, IsLoggedCashEntry, AreHistories}
use Rattle.log_text.proofs.Cuts.{IsWord, lacks_append}
use Rattle.log_text.proofs.Answered.{call_one_line, reply_lacks}
use Rattle.log_text.proofs.HeadsAgain.{end_words, end_row, end_are, missed_words, missed_row, missed_are}
use Rattle.log_text.proofs.Trades.{trade_words, trade_row, trade_are, auction_words, auction_row, auction_are}
use Rattle.log_text.proofs.Histories.{count_words, count_row, count_are}
use Rattle.log_text.proofs.ShownNumbers.{logged_call, logged_reply, trade_is}
use Rattle.log_reader.proofs.EntryFormLaws.{auction_again, trade_again, entry_body, entry_end, entry_again, cash_again}
use Rattle.log_reader.proofs.CashFormLaws.{cash_entry_body, cash_entry_end, cash_entry_lacks, cash_entry_again}
use Rattle.log_reader.proofs.HeadFormLaws.{verdict_words, link_words, link_are, link_text, link_again, end_again, missed_again}
use Rattle.log_reader.proofs.PartCases.{head_is}
use Rattle.log_reader.proofs.Taking.{bytes_of_parts, AllFrom, parts_numbered, parts_alike}
use Rattle.log_reader.proofs.Giving.{Any, at, line_given, whole_given, row_given, begins_with, row_begins, BeginsNot, GivesBytes, Keeps, Starts, repeat_given, as_long_given}

-- ---- links

-- a link at a place that a numeral shows
record IsLink (place : ℕ) (verdict : Verdict) : Type 0 where
  small : place < 2 ^ 32
  range : IsLoggedVerdict verdict

link_gives : GivesBytes (λ place. line_by (read_link place)) (λ place v. link_line (place, v)) IsLink Any
unfolding GivesBytes
link_gives place verdict is number rest q =
    (number + 1, row_given (read_link place) (link_words place verdict) (link_line (place, verdict)) verdict (link_are place verdict is.small is.range) (link_text place verdict) (link_again place verdict is.small is.range) number rest)

link_starts : Starts (codes "link") (λ place v. link_line (place, v)) IsLink
unfolding Starts
link_starts place verdict is number rest =
    row_begins (codes "link") (codes "link") (decimal place ∷ verdict_words verdict) (link_line (place, verdict)) true (link_are place verdict is.small is.range) (link_text place verdict) refl number rest

are_links : (from : ℕ) (verdicts : List Verdict) → from + length verdicts ≤ 255 → All IsLoggedVerdict verdicts → AllFrom IsLink from verdicts
are_links from [] few all = tt
are_links from (v ∷ vs) few all = (record { small = omega (arith, few); range = All-head IsLoggedVerdict v vs all }, are_links (from + 1) vs (omega (arith, few)) (All-tail IsLoggedVerdict v vs all))

-- ---- ends of sessions

end_gives : GivesBytes (λ _. line_by read_end) (λ _ e. end_line e) (λ _ e. IsLoggedEnd e) Any
unfolding GivesBytes
end_gives i end is number rest q = (number + 1, row_given read_end (end_words end) (end_line end) end (end_are end (omega (arith, is))) (sym (end_row end)) (end_again end is) number rest)

-- the first word of the line of an end
end_begins : (end : ℕ × Cause) → IsLoggedEnd end → (word : List ℕ) (b : Bool) → bytes_eq (codes "end") word ≡ b → (number : ℕ) (rest : List ℕ) → begins word (at number (end_line end ++ rest)) ≡ b
end_begins end is word b test number rest = row_begins word (codes "end") (decimal end.0 ∷ cause_text end.1 ∷ []) (end_line end) b (end_are end (omega (arith, is))) (sym (end_row end)) test number rest

end_starts : Starts (codes "end") (λ _ e. end_line e) (λ _ e. IsLoggedEnd e)
unfolding Starts
end_starts i end is number rest = end_begins end is (codes "end") true refl number rest

each_alike : {A : Type 0} (P : A → Type 0) (from : ℕ) (xs : List A) → All P xs → AllFrom (λ _ x. P x) from xs
each_alike P from [] all = tt
each_alike P from (x ∷ xs) all = (All-head P x xs all, each_alike P (from + 1) xs (All-tail P x xs all))

-- ---- missed ticks

missed_given : (missed number : ℕ) (rest : List ℕ) → missed ≤ 255 → line_by read_missed (at number (missed_line missed ++ rest)) ≡ Ok (missed, at (number + 1) rest)
missed_given missed number rest le = row_given read_missed (missed_words missed) (missed_line missed) missed (missed_are missed (omega (arith, le))) (sym (missed_row missed)) (missed_again missed le) number rest

missed_begins : (missed : ℕ) → missed ≤ 255 → (word : List ℕ) → bytes_eq (codes "missed") word ≡ false → (rest : List ℕ) → BeginsNot word (missed_line missed ++ rest)
missed_begins missed le word test rest number = row_begins word (codes "missed") (decimal missed ∷ []) (missed_line missed) false (missed_are missed (omega (arith, le))) (sym (missed_row missed)) test number rest

-- ---- the head

ends_begin : (ends : List (ℕ × Cause)) (missed : ℕ) → All IsLoggedEnd ends → missed ≤ 255 → (rest : List ℕ) → BeginsNot (codes "link") (flat_map end_line ends ++ (missed_line missed ++ rest))
ends_begin [] missed all le rest number = missed_begins missed le (codes "link") refl rest number
ends_begin (end ∷ ends) missed all le rest number =
    ap (λ (t : List ℕ). begins (codes "link") (at number t)) (ap (λ (t : List ℕ). t ++ (missed_line missed ++ rest)) (flat_map-cons end_line end ends) ∙ append_assoc (end_line end) (flat_map end_line ends) (missed_line missed ++ rest))
    ∙ end_begins end (All-head IsLoggedEnd end ends all) (codes "link") false refl number (flat_map end_line ends ++ (missed_line missed ++ rest))

served_given : (links : List Verdict) (ends : List (ℕ × Cause)) (missed : ℕ) → IsServedHead links ends missed → (number : ℕ) (rest : List ℕ) →
    (m : ℕ) × (served_in (at number ((flat_map link_line (enumerate_from 0 links) ++ (flat_map end_line ends ++ missed_line missed)) ++ rest)) ≡ Ok (Serve links ends missed, at m rest))
served_given links ends missed is number rest =
    let after_links = flat_map end_line ends ++ (missed_line missed ++ rest) in
    let a = as_long_given (codes "link") (λ place. line_by (read_link place)) (λ place v. link_line (place, v)) IsLink link_gives link_starts links 255 0 is.few_links (are_links 0 links (let few = is.few_links in omega (arith, few)) is.links_are) number after_links
    (ends_begin ends missed is.ends_are is.few_missed rest) in
    let b = as_long_given (codes "end") (λ _. line_by read_end) (λ _ e. end_line e) (λ _ e. IsLoggedEnd e) end_gives end_starts ends TEXT_BYTES 0 is.few_ends (each_alike IsLoggedEnd 0 ends is.ends_are) a.0 (missed_line missed ++ rest)
    (missed_begins missed is.few_missed (codes "end") refl rest) in
    let c = missed_given missed b.0 rest is.few_missed in
    let links_are = ap (λ (t : List ℕ). t ++ after_links) (sym (parts_numbered (λ place v. link_line (place, v)) 0 links)) in
    let ends_are = ap (λ (t : List ℕ). t ++ (missed_line missed ++ rest)) (sym (parts_alike end_line 0 ends)) in
    let whole = append_assoc (flat_map link_line (enumerate_from 0 links)) (flat_map end_line ends ++ missed_line missed) rest
    ∙ ap (λ (t : List ℕ). flat_map link_line (enumerate_from 0 links) ++ t) (append_assoc (flat_map end_line ends) (missed_line missed) rest) in
    let first : as_long_as (codes "link") (λ place. line_by (read_link place)) 255 0 (at number ((flat_map link_line (enumerate_from 0 links) ++ (flat_map end_line ends ++ missed_line missed)) ++ rest)) ≡ Ok (links, at a.0 after_links) =
    ap (λ (t : List ℕ). as_long_as (codes "link") (λ place. line_by (read_link place)) 255 0 (at number t)) (whole ∙ links_are) ∙ a.1 in
    let second : as_long_as (codes "end") (λ _. line_by read_end) TEXT_BYTES 0 (at a.0 after_links) ≡ Ok (ends, at b.0 (missed_line missed ++ rest)) =
    ap (λ (t : List ℕ). as_long_as (codes "end") (λ _. line_by read_end) TEXT_BYTES 0 (at a.0 t)) ends_are ∙ b.1 in
    (b.0 + 1, rw (first, second, c) refl)

pub text_given : (text : List ℕ) (number : ℕ) (rest : List ℕ) → Lacks 10 text → line_by (is_text text) (at number ((text ++ 10 ∷ []) ++ rest)) ≡ Ok (tt, at (number + 1) rest)
text_given text number rest h = whole_given (is_text text) text (text ++ 10 ∷ []) tt refl h (rw (is_same text) refl) number rest

pub head_given : (head : Head) → IsLoggedHead head → (number : ℕ) (rest : List ℕ) → (m : ℕ) × (head_in (at number (first_lines head ++ rest)) ≡ Ok (head, at m rest))
head_given Play is number rest =
    let title = text_given (codes "taclog 1") number (codes "play\n" ++ rest) (lacks 10 (codes "taclog 1") refl) in
    let kind = line_given is_served (number + 1) (codes "play") rest false (lacks 10 (codes "play") refl) refl in
    (number + 1 + 1, head_is (at number (first_lines Play ++ rest)) (tt, at (number + 1) (codes "play\n" ++ rest)) title (false, at (number + 1 + 1) rest) (Ok (Play, at (number + 1 + 1) rest)) kind refl)
head_given (Serve links ends missed) is number rest =
    let served = flat_map link_line (enumerate_from 0 links) ++ (flat_map end_line ends ++ missed_line missed) in
    let text : first_lines (Serve links ends missed) ++ rest ≡ (codes "taclog 1" ++ 10 ∷ []) ++ (codes "serve\n" ++ (served ++ rest)) =
    ap (λ (t : List ℕ). (codes "taclog 1" ++ 10 ∷ []) ++ (codes "serve\n" ++ (t ++ rest))) (append_assoc (flat_map link_line (enumerate_from 0 links)) (flat_map end_line ends) (missed_line missed)) in
    let title = ap (λ (t : List ℕ). line_by (is_text (codes "taclog 1")) (at number t)) text ∙ text_given (codes "taclog 1") number (codes "serve\n" ++ (served ++ rest)) (lacks 10 (codes "taclog 1") refl) in
    let kind = line_given is_served (number + 1) (codes "serve") (served ++ rest) true (lacks 10 (codes "serve") refl) refl in
    let others = served_given links ends missed is (number + 1 + 1) rest in (
      others.0,
      head_is (at number (first_lines (Serve links ends missed) ++ rest)) (tt, at (number + 1) (codes "serve\n" ++ (served ++ rest))) title (true, at (number + 1 + 1) (served ++ rest)) (Ok (Serve links ends missed, at others.0 rest)) kind others.1,
    )

-- ---- trades

trade_gives : (good : ℕ) → GivesBytes (λ _. line_by (trade_of good)) (λ _ t. trade_line t) (λ _ t. IsTrade good t) Any
unfolding GivesBytes
trade_gives good i t is number rest q = (number + 1, row_given (trade_of good) (trade_words t) (trade_line t) t (trade_are t (trade_is good t is)) (sym (trade_row t)) (trade_again good t is) number rest)

trade_starts : (good : ℕ) → Starts (codes "trade") (λ _ t. trade_line t) (λ _ t. IsTrade good t)
unfolding Starts
trade_starts good i t is number rest =
    row_begins (codes "trade") (codes "trade") (decimal t.buyer ∷ decimal t.seller ∷ decimal t.units ∷ decimal t.price ∷ []) (trade_line t) true (trade_are t (trade_is good t is)) (sym (trade_row t)) refl number rest

-- ---- entries

-- a text that begins with no trade
abbrev NoTrade : List ℕ → Type 0
NoTrade text = BeginsNot (codes "trade") text

-- a digit is no word of five letters
digit_other : (caller : ℕ) (word : List ℕ) → caller ≤ 8 → 1 < length word → bytes_eq (decimal caller) word ≡ false
digit_other caller word low long = elim (same_or_not (decimal caller) word) [
  | inl same ↦
      let one : length (decimal caller) ≡ 1 = ap length (decimal_digit caller (omega (arith, low))) in
      let other : length (decimal caller) ≡ length word = ap length same in
      absurd (omega (arith, one, other, long))
  | inr differ ↦ differ
]

entry_lacks : (caller : ℕ) (call : Call) (reply : Reply) → caller ≤ 8 → IsCall call → IsReply reply → Lacks 10 (entry_body caller call reply)
entry_lacks caller call reply low called replied =
    lacks_append 10 (decimal caller) (32 ∷ ((call_text call ++ 32 ∷ []) ++ 61 ∷ 32 ∷ reply_text reply)) (decimal_lacks 10 caller (lit< tt) (omega (arith, low))) (
      refl,
      lacks_append 10 (call_text call ++ 32 ∷ []) (61 ∷ 32 ∷ reply_text reply) (lacks_append 10 (call_text call) (32 ∷ []) (call_one_line call (logged_call call called)) (refl, tt)) (refl, (refl, reply_lacks reply (logged_reply reply replied))),
    )

entry_begins : (good : ℕ) (e : Entry) → IsEntry good e → (rest : List ℕ) → NoTrade (entry_text e ++ rest)
entry_begins good e is rest number =
    let after = flat_map trade_line e.trades ++ rest in
    let low = is.caller in
    let text = (call_text e.call ++ 32 ∷ []) ++ 61 ∷ 32 ∷ reply_text e.reply in
    let words : words_of (entry_body e.caller e.call e.reply) ≡ decimal e.caller ∷ words_of text = parts_more 32 (decimal e.caller) text (decimal_lacks 32 e.caller (lit< tt) (omega (arith, low))) in
    ap (λ (t : List ℕ). begins (codes "trade") (at number t)) (append_assoc (entry_line e.caller e.call e.reply) (flat_map trade_line e.trades) rest)
    ∙ begins_with (codes "trade") (entry_body e.caller e.call e.reply) (entry_line e.caller e.call e.reply) false (entry_end e.caller e.call e.reply) (entry_lacks e.caller e.call e.reply is.caller is.call is.reply)
    (ap (first_is (codes "trade")) words ∙ digit_other e.caller (codes "trade") is.caller (lit< tt)) number after

entry_gives : (good : ℕ) → GivesBytes (λ _. entry_in good) (λ _ e. entry_text e) (λ _ e. IsEntry good e) NoTrade
unfolding GivesBytes entry_in
entry_gives good i e is number rest none =
    let after = flat_map trade_line e.trades ++ rest in
    let line = ap (λ (t : List ℕ). line_by read_entry (at number t)) (append_assoc (entry_line e.caller e.call e.reply) (flat_map trade_line e.trades) rest)
    ∙ whole_given read_entry (entry_body e.caller e.call e.reply) (entry_line e.caller e.call e.reply) (e.caller, e.call, e.reply) (entry_end e.caller e.call e.reply) (entry_lacks e.caller e.call e.reply is.caller is.call is.reply)
    (entry_again e.caller e.call e.reply is.caller is.call is.reply) number after in
    let trades = as_long_given (codes "trade") (λ _. line_by (trade_of good)) (λ _ t. trade_line t) (λ _ t. IsTrade good t) (trade_gives good) (trade_starts good) e.trades 128 0 is.few (each_alike (IsTrade good) 0 e.trades is.trades) (number + 1) rest none in
    let second : as_long_as (codes "trade") (λ _. line_by (trade_of good)) 128 0 (at (number + 1) after) ≡ Ok (e.trades, at trades.0 rest) =
    ap (λ (t : List ℕ). as_long_as (codes "trade") (λ _. line_by (trade_of good)) 128 0 (at (number + 1) (t ++ rest))) (sym (parts_alike trade_line 0 e.trades)) ∙ trades.1 in
    (trades.0, rw (line, second) refl)

entry_keeps : (good : ℕ) → Keeps (λ _ e. entry_text e) (λ _ e. IsEntry good e) NoTrade
unfolding Keeps
entry_keeps good i e is rest = entry_begins good e is rest

-- ---- histories

-- the history of a good
record IsOfGood (good : ℕ) (history : List Entry) : Type 0 where
  low : good ≤ 27
  range : IsHistory good history

history_words : (good : ℕ) (history : List Entry) → IsOfGood good history → AllByRecursion IsWord (auction_words good (length history))
history_words good history is =
    let low = is.low in
    let few = is.range.few in
    auction_are good (length history) (omega (arith, low)) (omega (arith, few))

history_gives : GivesBytes history_in (λ good history. auction_text good history) IsOfGood NoTrade
unfolding GivesBytes history_in
history_gives good history is number rest none =
    let after = flat_map entry_text history ++ rest in
    let line = ap (λ (t : List ℕ). line_by (auction_of good) (at number t)) (append_assoc (auction_line good (length history)) (flat_map entry_text history) rest)
    ∙ row_given (auction_of good) (auction_words good (length history)) (auction_line good (length history)) (length history) (history_words good history is) (sym (auction_row good (length history))) (auction_again good (length history) is.low is.range.few) number after in
    let entries = repeat_given (λ _. entry_in good) (λ _ e. entry_text e) (λ _ e. IsEntry good e) NoTrade (entry_gives good) (entry_keeps good) history 0 (each_alike (IsEntry good) 0 history is.range.entries) (number + 1) rest none in
    let second : repeat (length history) 0 (λ _. entry_in good) (at (number + 1) after) ≡ Ok (history, at entries.0 rest) =
    ap (λ (t : List ℕ). repeat (length history) 0 (λ _. entry_in good) (at (number + 1) (t ++ rest))) (sym (parts_alike entry_text 0 history)) ∙ entries.1 in
    (entries.0, rw (line, second) refl)

history_keeps : Keeps (λ good history. auction_text good history) IsOfGood NoTrade
unfolding Keeps
history_keeps good history is rest number =
    ap (λ (t : List ℕ). begins (codes "trade") (at number t)) (append_assoc (auction_line good (length history)) (flat_map entry_text history) rest)
    ∙ row_begins (codes "trade") (codes "auction") (decimal good ∷ decimal (length history) ∷ []) (auction_line good (length history)) false (history_words good history is) (sym (auction_row good (length history))) refl number (flat_map entry_text history ++ rest)

are_histories : (from : ℕ) (histories : List (List Entry)) → from + length histories ≤ 28 → AreHistories from histories → AllFrom IsOfGood from histories
are_histories from [] few h = tt
are_histories from (history ∷ histories) few h = (record { low = omega (arith, few); range = h.0 }, are_histories (from + 1) histories (omega (arith, few)) h.1)

-- ---- the cash history

cash_begins : (cash : List CashEntry) → length cash ≤ 238048 → (rest : List ℕ) → NoTrade (cash_text cash ++ rest)
cash_begins cash few rest number =
    ap (λ (t : List ℕ). begins (codes "trade") (at number t)) (append_assoc (cash_line (length cash)) (flat_map cash_entry_line cash) rest)
    ∙ row_begins (codes "trade") (codes "cash") (decimal (length cash) ∷ []) (cash_line (length cash)) false (count_are (length cash) (omega (arith, few))) (sym (count_row (length cash))) refl number (flat_map cash_entry_line cash ++ rest)

cash_gives : GivesBytes (λ _. line_by cash_entry_of) (λ _ e. cash_entry_line e) (λ _ e. IsLoggedCashEntry e) Any
unfolding GivesBytes
cash_gives i e is number rest q = (number + 1, whole_given cash_entry_of (cash_entry_body e) (cash_entry_line e) e (cash_entry_end e is) (cash_entry_lacks e is) (cash_entry_again e is) number rest)

pub any_kept : {A : Type 0} (bytes : ℕ → A → List ℕ) (P : ℕ → A → Type 0) → Keeps bytes P Any
unfolding Keeps
any_kept bytes P i x is rest = tt

pub cash_given : (cash : List CashEntry) → length cash ≤ 238048 → All IsLoggedCashEntry cash → (number : ℕ) (rest : List ℕ) → (m : ℕ) × (cash_in (at number (cash_text cash ++ rest)) ≡ Ok (cash, at m rest))
unfolding cash_in
cash_given cash few are number rest =
    let after = flat_map cash_entry_line cash ++ rest in
    let line = ap (λ (t : List ℕ). line_by read_cash_line (at number t)) (append_assoc (cash_line (length cash)) (flat_map cash_entry_line cash) rest)
    ∙ row_given read_cash_line (count_words (length cash)) (cash_line (length cash)) (length cash) (count_are (length cash) (omega (arith, few))) (sym (count_row (length cash))) (cash_again (length cash) few) number after in
    let entries = repeat_given (λ _. line_by cash_entry_of) (λ _ e. cash_entry_line e) (λ _ e. IsLoggedCashEntry e) Any cash_gives (any_kept (λ _ e. cash_entry_line e) (λ _ e. IsLoggedCashEntry e)) cash 0 (each_alike IsLoggedCashEntry 0 cash are) (number + 1) rest tt in
    let second : repeat (length cash) 0 (λ _. line_by cash_entry_of) (at (number + 1) after) ≡ Ok (cash, at entries.0 rest) =
    ap (λ (t : List ℕ). repeat (length cash) 0 (λ _. line_by cash_entry_of) (at (number + 1) (t ++ rest))) (sym (parts_alike cash_entry_line 0 cash)) ∙ entries.1 in
    (entries.0, rw (line, second) refl)

-- all histories, before what begins with no trade
pub histories_given : (histories : List (List Entry)) (cash : List CashEntry) → length histories ≡ 28 → AreHistories 0 histories → length cash ≤ 238048 → All IsLoggedCashEntry cash → (number : ℕ) (rest : List ℕ) →
    (k : ℕ) × (m : ℕ) × (repeat 28 0 history_in (at number (histories_text histories cash ++ rest)) ≡ Ok (histories, at k (cash_text cash ++ rest))) × (cash_in (at k (cash_text cash ++ rest)) ≡ Ok (cash, at m rest))
histories_given histories cash goods are few each number rest =
    let after = cash_text cash ++ rest in
    let all = repeat_given history_in (λ good history. auction_text good history) IsOfGood NoTrade history_gives history_keeps histories 0 (are_histories 0 histories (omega (arith, goods)) are) number after (cash_begins cash few rest) in
    let money = cash_given cash few each all.0 rest in
    let text : histories_text histories cash ++ rest ≡ bytes_of_parts auction_text 0 histories ++ after =
    append_assoc (flat_map (λ auction. auction_text auction.0 auction.1) (enumerate_from 0 histories)) (cash_text cash) rest ∙ ap (λ (t : List ℕ). t ++ after) (sym (parts_numbered auction_text 0 histories)) in
    (all.0, money.0, (λ i. repeat (sym goods i) 0 history_in (at number (text i))) ∙ all.1, money.1)
