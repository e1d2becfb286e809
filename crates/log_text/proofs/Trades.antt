-- Trades and entries of auctions are determined by their lines.
use Rattle.std.proofs.Common.{◌≡◌, ℕ, ◌^◌, ◌<◌, true, false, not, eqb, List, [], ◌∷◌, ◌++◌, length, map, get_or, drop, refl, sym, ap, subst, ◌∙◌, append_assoc, arith, decimal, codes, flat_map}
use Rattle.std.specs.Str.{all_ascii_digits}
use Rattle.std.specs.List.{AllByRecursion, list_all}
use Rattle.std.proofs.lemmas.Bool.Decides.{nat_tests}
use Rattle.std.proofs.lemmas.Fmt.{decimal_injective, decimal_nonempty}
use Rattle.std.proofs.lemmas.List.{append_cancel_right}
use Rattle.log_text.specs.{Call, Reply, Trade, reply_text, Entry, AuctionHistory, call_text, trade_line, entry_line, entry_text, auction_line, AreTradeNumbers, IsShownEntry, IsAuction}
use Rattle.tac_base.proofs.NumeralLaws.{both_true, decimal_digits}
use Rattle.line_protocol.proofs.JoinedWords.{lacks}
use Rattle.log_text.proofs.InOrder.{kept_text}
use Rattle.log_text.proofs.Cuts.{cut_same, lacks_append, IsWord, row, row_same, number_word, pieces_cons}
use Rattle.log_text.proofs.Items.{both_all}
use Rattle.log_text.proofs.Answered.{call_same, reply_same, call_lacks, reply_lacks}

pub known_word : (word : List ℕ) → (list_all (λ b. not (eqb b 32)) word ≡ true) → (list_all (λ b. not (eqb b 10)) word ≡ true) → IsWord word
known_word word h k = (lacks 32 word h, lacks 10 word k)

-- ---- trades

-- a text does not begin with the line of a trade
abbrev pub NoTrade : List ℕ → Type 0
NoTrade text = eqb (get_or text 0 0) 116 ≡ false

-- a trade of a good
record IsShownTrade (g : ℕ) (t : Trade) : Type 0 where
  good : t.good ≡ g
  numbers : AreTradeNumbers t

trades_of_good : (g : ℕ) (e : Entry) → IsShownEntry g e → AllByRecursion (IsShownTrade g) e.trades
trades_of_good g e h = both_all (λ (t : Trade). t.good ≡ g) AreTradeNumbers (IsShownTrade g) (λ t good numbers. record { good = good; numbers = numbers }) e.trades h.goods h.numbers.trades

abbrev pub trade_words : Trade → List (List ℕ)
trade_words t = codes "trade" ∷ decimal t.buyer ∷ decimal t.seller ∷ decimal t.units ∷ decimal t.price ∷ []

pub trade_row : (t : Trade) → trade_line t ≡ row (trade_words t)
trade_row t = simp append_assoc

pub trade_are : (t : Trade) → AreTradeNumbers t → AllByRecursion IsWord (trade_words t)
trade_are t are = (known_word (codes "trade") refl refl, (number_word t.buyer are.buyer, (number_word t.seller are.seller, (number_word t.units are.units, (number_word t.price are.price, tt)))))

abbrev made_trade : ℕ → ℕ → ℕ → ℕ → ℕ → Trade
made_trade buyer seller good units price = record { buyer = buyer; seller = seller; good = good; units = units; price = price }

trade_same : (g : ℕ) (t u : Trade) → IsShownTrade g t → IsShownTrade g u → trade_words t ≡ trade_words u → t ≡ u
trade_same g t u h k e =
    let buyer : t.buyer ≡ u.buyer = decimal_injective t.buyer u.buyer h.numbers.buyer k.numbers.buyer cc in
    let seller : t.seller ≡ u.seller = decimal_injective t.seller u.seller h.numbers.seller k.numbers.seller cc in
    let units : t.units ≡ u.units = decimal_injective t.units u.units h.numbers.units k.numbers.units cc in
    let price : t.price ≡ u.price = decimal_injective t.price u.price h.numbers.price k.numbers.price cc in
    let good : t.good ≡ u.good = h.good ∙ sym k.good in
    let made : made_trade t.buyer t.seller t.good t.units t.price ≡ made_trade u.buyer u.seller u.good u.units u.price = cc in
    made

trades_cons : (t : Trade) (ts : List Trade) (rest : List ℕ) → flat_map trade_line (t ∷ ts) ++ rest ≡ row (trade_words t) ++ (flat_map trade_line ts ++ rest)
trades_cons t ts rest = pieces_cons trade_line t ts rest ∙ ap (λ (line : List ℕ). line ++ (flat_map trade_line ts ++ rest)) (trade_row t)

-- a text that begins with a trade does not begin with none
is_trade : (rest text : List ℕ) → NoTrade rest → rest ≡ 116 ∷ text → ⊥
is_trade rest text none e =
    let test : eqb (get_or rest 0 0) 116 ≡ true = ap (λ (t : List ℕ). eqb (get_or t 0 0) 116) e in
    let clash : true ≡ false = sym test ∙ none in
    cc

trades_same : (g : ℕ) (ts us : List Trade) (rest more : List ℕ) → AllByRecursion (IsShownTrade g) ts → AllByRecursion (IsShownTrade g) us → NoTrade rest → NoTrade more → flat_map trade_line ts ++ rest ≡ flat_map trade_line us ++ more → (ts ≡ us) × (rest ≡ more)
trades_same g [] [] rest more h k none none' e = (refl, e)
trades_same g [] (u ∷ us) rest more h k none none' e = absurd (is_trade rest _ none (e ∙ trades_cons u us more))
trades_same g (t ∷ ts) [] rest more h k none none' e = absurd (is_trade more _ none' (sym e ∙ trades_cons t ts rest))
trades_same g (t ∷ ts) (u ∷ us) rest more h k none none' e =
    let cut = row_same _ _ _ _ (flat_map trade_line ts ++ rest) (flat_map trade_line us ++ more) (trade_are t h.0.numbers) (trade_are u k.0.numbers) (sym (trades_cons t ts rest) ∙ e ∙ trades_cons u us more) in
    let first = trade_same g t u h.0 k.0 cut.0 in
    let others = trades_same g ts us rest more h.1 k.1 none none' cut.1 in
    (ap (λ (x : Trade). x ∷ ts) first ∙ ap (λ (xs : List Trade). u ∷ xs) others.0, others.1)

-- ---- entries

entry_parts : (caller : ℕ) (call : Call) (reply : Reply) (rest : List ℕ) → entry_line caller call reply ++ rest ≡ decimal caller ++ 32 ∷ ((call_text call ++ 32 ∷ []) ++ 61 ∷ (32 ∷ (reply_text reply ++ 10 ∷ rest)))
entry_parts caller call reply rest = simp append_assoc

-- what an entry's line means
record AreSame (e f : Entry) (us vs : List ℕ) : Type 0 where
  caller : e.caller ≡ f.caller
  call : e.call ≡ f.call
  reply : e.reply ≡ f.reply
  rest : us ≡ vs

lines_same : (g : ℕ) (e f : Entry) (us vs : List ℕ) → IsShownEntry g e → IsShownEntry g f → entry_line e.caller e.call e.reply ++ us ≡ entry_line f.caller f.call f.reply ++ vs → AreSame e f us vs
lines_same g e f us vs h k same =
    let callers = cut_same 32 (decimal e.caller) (decimal f.caller) _ _ (number_word e.caller h.numbers.caller).0 (number_word f.caller k.numbers.caller).0
    (sym (entry_parts e.caller e.call e.reply us) ∙ same ∙ entry_parts f.caller f.call f.reply vs) in
    let called = cut_same 61 (call_text e.call ++ 32 ∷ []) (call_text f.call ++ 32 ∷ []) _ _
    (lacks_append 61 (call_text e.call) (32 ∷ []) (call_lacks e.call h.numbers.call) (refl, tt)) (lacks_append 61 (call_text f.call) (32 ∷ []) (call_lacks f.call k.numbers.call) (refl, tt)) callers.1 in
    let answered : reply_text e.reply ++ 10 ∷ us ≡ reply_text f.reply ++ 10 ∷ vs = ap (drop 1) called.1 in
    let replied = cut_same 10 (reply_text e.reply) (reply_text f.reply) us vs (reply_lacks e.reply h.numbers.reply) (reply_lacks f.reply k.numbers.reply) answered in
    record {
      caller = decimal_injective e.caller f.caller h.numbers.caller k.numbers.caller callers.0;
      call = call_same e.call f.call h.numbers.call k.numbers.call (append_cancel_right (call_text e.call) (call_text f.call) (32 ∷ []) called.0);
      reply = reply_same e.reply f.reply h.numbers.reply k.numbers.reply replied.0;
      rest = replied.1;
    }

abbrev made_entry : ℕ → Call → Reply → List Trade → Entry
made_entry caller call reply trades = record { caller = caller; call = call; reply = reply; trades = trades }

entry_same : (e f : Entry) → e.caller ≡ f.caller → e.call ≡ f.call → e.reply ≡ f.reply → e.trades ≡ f.trades → e ≡ f
entry_same e f caller call reply trades =
    let made : made_entry e.caller e.call e.reply e.trades ≡ made_entry f.caller f.call f.reply f.trades = cc in
    made

entries_cons : (e : Entry) (es : List Entry) (rest : List ℕ) → flat_map entry_text (e ∷ es) ++ rest ≡ entry_line e.caller e.call e.reply ++ (flat_map trade_line e.trades ++ (flat_map entry_text es ++ rest))
entries_cons e es rest = pieces_cons entry_text e es rest ∙ append_assoc (entry_line e.caller e.call e.reply) (flat_map trade_line e.trades) (flat_map entry_text es ++ rest)

-- a digit begins no trade
digit_first : (word text : List ℕ) → all_ascii_digits word ≡ true → 0 < length word → NoTrade (word ++ text)
digit_first [] text h some = absurd (omega (arith, some))
digit_first (first ∷ rest) text h some =
    let digit = (both_true _ (all_ascii_digits rest) h).0 in
    grind (arith, nat_tests, digit)

no_trade : (g : ℕ) (es : List Entry) (rest : List ℕ) → AllByRecursion (IsShownEntry g) es → NoTrade rest → NoTrade (flat_map entry_text es ++ rest)
no_trade g [] rest h none = none
no_trade g (e ∷ es) rest h none =
    let after = flat_map trade_line e.trades ++ (flat_map entry_text es ++ rest) in
    subst NoTrade (sym (entries_cons e es rest ∙ entry_parts e.caller e.call e.reply after))
    (digit_first (decimal e.caller) _ (decimal_digits e.caller h.0.numbers.caller) (decimal_nonempty e.caller h.0.numbers.caller))

-- as many entries as these, and what follows them
entries_same : (g : ℕ) (es fs : List Entry) (rest more : List ℕ) → AllByRecursion (IsShownEntry g) es → AllByRecursion (IsShownEntry g) fs → length es ≡ length fs → NoTrade rest → NoTrade more → flat_map entry_text es ++ rest ≡ flat_map entry_text fs ++ more → (es ≡ fs) × (rest ≡ more)
entries_same g [] [] rest more h k n none none' same = (refl, same)
entries_same g [] (f ∷ fs) rest more h k n none none' same = absurd (omega (arith, n))
entries_same g (e ∷ es) [] rest more h k n none none' same = absurd (omega (arith, n))
entries_same g (e ∷ es) (f ∷ fs) rest more h k n none none' same =
    let line = lines_same g e f _ _ h.0 k.0 (sym (entries_cons e es rest) ∙ same ∙ entries_cons f fs more) in
    let trades = trades_same g e.trades f.trades (flat_map entry_text es ++ rest) (flat_map entry_text fs ++ more) (trades_of_good g e h.0) (trades_of_good g f k.0) (no_trade g es rest h.1 none) (no_trade g fs more k.1 none') line.rest in
    let others = entries_same g es fs rest more h.1 k.1 (omega (arith, n)) none none' trades.1 in
    let first = entry_same e f line.caller line.call line.reply trades.0 in
    (ap (λ (x : Entry). x ∷ es) first ∙ ap (λ (xs : List Entry). f ∷ xs) others.0, others.1)

-- ---- auctions

abbrev pub auction_words : ℕ → ℕ → List (List ℕ)
auction_words good count = codes "auction" ∷ decimal good ∷ decimal count ∷ []

pub auction_row : (good count : ℕ) → auction_line good count ≡ row (auction_words good count)
auction_row good count = simp append_assoc

pub auction_are : (good count : ℕ) → good < 2 ^ 64 → count < 2 ^ 64 → AllByRecursion IsWord (auction_words good count)
auction_are good count h k = (known_word (codes "auction") refl refl, (number_word good h, (number_word count k, tt)))

counts_same : (good other m n : ℕ) → auction_words good m ≡ auction_words other n → decimal m ≡ decimal n
counts_same good other m n e = ap (λ (words : List (List ℕ)). get_or words 2 []) e

auctions_cons : (a : AuctionHistory) (others : List AuctionHistory) (rest : List ℕ) → flat_map kept_text (a ∷ others) ++ rest ≡ row (auction_words a.setup.good (length a.history)) ++ (flat_map entry_text a.history ++ (flat_map kept_text others ++ rest))
auctions_cons a others rest =
    pieces_cons kept_text a others rest ∙ append_assoc (auction_line a.setup.good (length a.history)) (flat_map entry_text a.history) (flat_map kept_text others ++ rest)
    ∙ ap (λ (line : List ℕ). line ++ (flat_map entry_text a.history ++ (flat_map kept_text others ++ rest))) (auction_row a.setup.good (length a.history))

no_trade_first : (auctions : List AuctionHistory) (rest : List ℕ) → NoTrade rest → NoTrade (flat_map kept_text auctions ++ rest)
no_trade_first [] rest none = none
no_trade_first (a ∷ others) rest none = subst NoTrade (sym (auctions_cons a others rest)) refl

abbrev pub goods_of : List AuctionHistory → List ℕ
goods_of auctions = map (λ auction. auction.setup.good) auctions

abbrev pub histories_of : List AuctionHistory → List (List Entry)
histories_of auctions = map (λ auction. auction.history) auctions

-- auctions of these goods, and what follows them
pub auctions_same : (auctions others : List AuctionHistory) (rest more : List ℕ) → AllByRecursion IsAuction auctions → AllByRecursion IsAuction others → goods_of auctions ≡ goods_of others → NoTrade rest → NoTrade more → flat_map kept_text auctions ++ rest ≡ flat_map kept_text others ++ more → (histories_of auctions ≡ histories_of others) × (rest ≡ more)
auctions_same [] [] rest more h k goods none none' same = (refl, same)
auctions_same [] (b ∷ ys) rest more h k goods none none' same = absurd cc
auctions_same (a ∷ xs) [] rest more h k goods none none' same = absurd cc
auctions_same (a ∷ xs) (b ∷ ys) rest more h k goods none none' same =
    let good : a.setup.good ≡ b.setup.good = cc in
    let other_goods : goods_of xs ≡ goods_of ys = cc in
    let after = flat_map kept_text xs ++ rest in
    let after' = flat_map kept_text ys ++ more in
    let cut = row_same _ _ _ _ (flat_map entry_text a.history ++ after) (flat_map entry_text b.history ++ after')
    (auction_are a.setup.good (length a.history) h.0.good h.0.count) (auction_are b.setup.good (length b.history) k.0.good k.0.count)
    (sym (auctions_cons a xs rest) ∙ same ∙ auctions_cons b ys more) in
    let count = decimal_injective (length a.history) (length b.history) h.0.count k.0.count (counts_same a.setup.good b.setup.good (length a.history) (length b.history) cut.0) in
    let entries = entries_same a.setup.good a.history b.history after after' h.0.entries (subst (λ (g : ℕ). AllByRecursion (IsShownEntry g) b.history) (sym good) k.0.entries) count
    (no_trade_first xs rest none) (no_trade_first ys more none') cut.1 in
    let more_auctions = auctions_same xs ys rest more h.1 k.1 other_goods none none' entries.1 in
    (ap (λ (x : List Entry). x ∷ histories_of xs) entries.0 ∙ ap (λ (hs : List (List Entry)). b.history ∷ hs) more_auctions.0, more_auctions.1)
