-- A text that begins with the first part of a log determines its game.
use Rattle.std.proofs.Common.{◌≡◌, ℕ, List, [], ◌∷◌, ◌++◌, length, map, get_or, drop, refl, sym, ap, subst, ◌∙◌, append_assoc, arith, ℤ, decimal, codes, flat_map, append-nil}
use Rattle.std.specs.Fmt.{signed_decimal}
use Rattle.std.specs.List.{AllByRecursion, join_with_byte}
use Rattle.std.proofs.lemmas.Fmt.{decimal_injective}
use Rattle.std.proofs.lemmas.List.Concat.{flat_map-cons}
use Rattle.log_text.specs.{CashCall, Post, Read, CashReply, Done, Cash, CashEntry, ClosedGame, Head, then_signed, cash_call_text, cash_reply_text, cash_entry_line, cash_line, cash_text, first_lines, play_part, IsNumber, IsSigned, AreCashNumbers, IsShownCashReply, FitsCall, IsCashEntry, IsPlayed, HaveOwnPlayParts}
use Rattle.log_text.proofs.InOrder.{kept_text, in_order}
use Rattle.log_text.proofs.Cuts.{IsWord, row, row_same, number_word, signed_word, signed_same, pieces_cons}
use Rattle.log_text.proofs.HeadsAgain.{head_same}
use Rattle.log_text.proofs.Trades.{known_word, auctions_same}

-- ---- cash entries

abbrev pub cash_words : ℕ → CashCall → CashReply → List (List ℕ)
cash_words caller (Post good position nets) reply = decimal caller ∷ codes "post" ∷ decimal good ∷ decimal position ∷ map signed_decimal nets.dollars
cash_words caller (Read agent) Done = decimal caller ∷ codes "read" ∷ codes "=" ∷ []
cash_words caller (Read agent) (Cash dollars) = decimal caller ∷ codes "read" ∷ codes "=" ∷ signed_decimal dollars ∷ []

joined_signed : (word : List ℕ) (zs : List ℤ) → join_with_byte 32 (word ∷ map signed_decimal zs) ≡ word ++ flat_map then_signed zs
joined_signed word [] = sym (append-nil word)
joined_signed word (z ∷ zs) =
    ap (λ (text : List ℕ). word ++ 32 ∷ text) (joined_signed (signed_decimal z) zs) ∙ ap (λ (text : List ℕ). word ++ text) (sym (flat_map-cons then_signed z zs))

regroup : (a b c d e f : List ℕ) → a ++ (b ++ c ++ d ++ e) ++ [] ++ f ≡ a ++ (b ++ (c ++ (d ++ (e ++ f))))
regroup a b c d e f = simp (append_assoc, append-nil)

after_post : (good position nets : List ℕ) → (good ++ 32 ∷ (position ++ nets)) ++ 10 ∷ [] ≡ good ++ 32 ∷ (position ++ (nets ++ 10 ∷ []))
after_post good position nets = simp append_assoc

-- the line of a post, whatever its numbers are
post_line : (caller good position nets : List ℕ) → caller ++ (codes " post" ++ (32 ∷ good) ++ (32 ∷ position) ++ nets) ++ [] ++ codes "\n" ≡ (caller ++ 32 ∷ (codes "post" ++ 32 ∷ (good ++ 32 ∷ (position ++ nets)))) ++ 10 ∷ []
post_line caller good position nets =
    regroup caller (codes " post") (32 ∷ good) (32 ∷ position) nets (codes "\n")
    ∙ sym (append_assoc caller (32 ∷ (codes "post" ++ 32 ∷ (good ++ 32 ∷ (position ++ nets)))) (10 ∷ []) ∙ ap (λ (text : List ℕ). caller ++ (codes " post" ++ 32 ∷ text)) (after_post good position nets))

pub cash_row : (caller : ℕ) (call : CashCall) (reply : CashReply) → FitsCall caller call reply → decimal caller ++ cash_call_text call ++ cash_reply_text reply ++ codes "\n" ≡ row (cash_words caller call reply)
cash_row caller (Post good position nets) Done h =
    post_line (decimal caller) (decimal good) (decimal position) (flat_map then_signed nets.dollars)
    ∙ ap (λ (text : List ℕ). (decimal caller ++ 32 ∷ (codes "post" ++ 32 ∷ (decimal good ++ 32 ∷ text))) ++ 10 ∷ []) (sym (joined_signed (decimal position) nets.dollars))
cash_row caller (Post good position nets) (Cash dollars) h = absurd h
cash_row caller (Read agent) Done h = absurd h
cash_row caller (Read agent) (Cash dollars) h = simp append_assoc

pub signed_are : (zs : List ℤ) → AllByRecursion IsSigned zs → AllByRecursion IsWord (map signed_decimal zs)
signed_are [] h = tt
signed_are (z ∷ zs) h = (signed_word z h.0, signed_are zs h.1)

pub cash_are : (caller : ℕ) (call : CashCall) (reply : CashReply) → IsNumber caller → AreCashNumbers call → IsShownCashReply reply → AllByRecursion IsWord (cash_words caller call reply)
cash_are caller (Post good position nets) reply n h k = (number_word caller n, (known_word (codes "post") refl refl, (number_word good h.0, (number_word position h.1, signed_are nets.dollars h.2))))
cash_are caller (Read agent) Done n h k = (number_word caller n, (known_word (codes "read") refl refl, (known_word (codes "=") refl refl, tt)))
cash_are caller (Read agent) (Cash dollars) n h k = (number_word caller n, (known_word (codes "read") refl refl, (known_word (codes "=") refl refl, (signed_word dollars k, tt))))

pub dollars_same : (ys zs : List ℤ) → AllByRecursion IsSigned ys → AllByRecursion IsSigned zs → map signed_decimal ys ≡ map signed_decimal zs → ys ≡ zs
dollars_same [] [] h k e = refl
dollars_same [] (z ∷ zs) h k e = absurd cc
dollars_same (y ∷ ys) [] h k e = absurd cc
dollars_same (y ∷ ys) (z ∷ zs) h k e =
    let first = signed_same y z h.0 k.0 (ap (λ (words : List (List ℕ)). get_or words 0 []) e) in
    let others = dollars_same ys zs h.1 k.1 (ap (drop 1) e) in
    (ap (λ (x : ℤ). x ∷ ys) first ∙ ap (λ (xs : List ℤ). z ∷ xs) others)

-- a post and a reading have different words
keywords_differ : (m n : ℕ) (words others : List (List ℕ)) → decimal m ∷ codes "post" ∷ words ≡ decimal n ∷ codes "read" ∷ others → ⊥
keywords_differ m n words others e =
    let first : 112 ≡ 114 = ap (λ (ws : List (List ℕ)). get_or (get_or ws 1 []) 0 0) e in
    omega (arith, first)

-- what the words of an entry mean
record AreSame (caller other : ℕ) (call called : CashCall) (reply answered : CashReply) : Type 0 where
  caller_same : caller ≡ other
  call_same : call ≡ called
  reply_same : reply ≡ answered

made_post : ℕ → ℕ → List ℤ → CashCall
made_post good position dollars = Post good position (record { dollars = dollars })

words_same : (caller other : ℕ) (call called : CashCall) (reply answered : CashReply) → IsNumber caller → IsNumber other → AreCashNumbers call → AreCashNumbers called → IsShownCashReply reply → IsShownCashReply answered → FitsCall caller call reply → FitsCall other called answered → cash_words caller call reply ≡ cash_words other called answered → AreSame caller other call called reply answered
unfolding made_post
words_same caller other (Post good position nets) (Post good' position' nets') Done Done n m h k r s f g e =
    let callers = decimal_injective caller other n m (ap (λ (ws : List (List ℕ)). get_or ws 0 []) e) in
    let goods = decimal_injective good good' h.0 k.0 (ap (λ (ws : List (List ℕ)). get_or ws 2 []) e) in
    let positions = decimal_injective position position' h.1 k.1 (ap (λ (ws : List (List ℕ)). get_or ws 3 []) e) in
    let dollars = dollars_same nets.dollars nets'.dollars h.2 k.2 (ap (drop 4) e) in
    let made : made_post good position nets.dollars ≡ made_post good' position' nets'.dollars = cc in
    record { caller_same = callers; call_same = made; reply_same = refl }
words_same caller other (Post good position nets) called (Cash dollars) answered n m h k r s f g e = absurd f
words_same caller other (Post good position nets) (Post good' position' nets') Done (Cash dollars) n m h k r s f g e = absurd g
words_same caller other (Post good position nets) (Read agent) Done Done n m h k r s f g e = absurd g
words_same caller other (Post good position nets) (Read agent) Done (Cash dollars) n m h k r s f g e = absurd (keywords_differ caller other _ _ e)
words_same caller other (Read agent) called Done answered n m h k r s f g e = absurd f
words_same caller other (Read agent) (Post good position nets) (Cash dollars) answered n m h k r s f g e = absurd (keywords_differ other caller _ _ (sym e))
words_same caller other (Read agent) (Read agent') (Cash dollars) Done n m h k r s f g e = absurd g
words_same caller other (Read agent) (Read agent') (Cash dollars) (Cash dollars') n m h k r s f g e =
    let callers = decimal_injective caller other n m (ap (λ (ws : List (List ℕ)). get_or ws 0 []) e) in
    let agents : agent ≡ agent' = f ∙ callers ∙ sym g in
    let same = signed_same dollars dollars' r s (ap (λ (ws : List (List ℕ)). get_or ws 3 []) e) in
    record { caller_same = callers; call_same = ap (λ (a : ℕ). Read a) agents; reply_same = ap (λ (z : ℤ). Cash z) same }

abbrev made_entry : ℕ → CashCall → CashReply → CashEntry
made_entry caller call reply = record { caller = caller; call = call; reply = reply }

entry_same : (e f : CashEntry) → AreSame e.caller f.caller e.call f.call e.reply f.reply → e ≡ f
entry_same e f same =
    let caller = same.caller_same in
    let call = same.call_same in
    let reply = same.reply_same in
    let made : made_entry e.caller e.call e.reply ≡ made_entry f.caller f.call f.reply = cc in
    made

cash_cons : (e : CashEntry) (es : List CashEntry) (rest : List ℕ) → IsCashEntry e → flat_map cash_entry_line (e ∷ es) ++ rest ≡ row (cash_words e.caller e.call e.reply) ++ (flat_map cash_entry_line es ++ rest)
cash_cons e es rest h = pieces_cons cash_entry_line e es rest ∙ ap (λ (line : List ℕ). line ++ (flat_map cash_entry_line es ++ rest)) (cash_row e.caller e.call e.reply h.fits)

-- the words of an entry are some
first_word : (caller : ℕ) (call : CashCall) (reply : CashReply) → cash_words caller call reply ≡ decimal caller ∷ drop 1 (cash_words caller call reply)
first_word caller (Post good position nets) reply = refl
first_word caller (Read agent) Done = refl
first_word caller (Read agent) (Cash dollars) = refl

cash_line_same : (e f : CashEntry) (us vs : List ℕ) → IsCashEntry e → IsCashEntry f → row (cash_words e.caller e.call e.reply) ++ us ≡ row (cash_words f.caller f.call f.reply) ++ vs → (e ≡ f) × (us ≡ vs)
cash_line_same e f us vs h k same =
    let mine = first_word e.caller e.call e.reply in
    let theirs = first_word f.caller f.call f.reply in
    let cut = row_same (decimal e.caller) (decimal f.caller) (drop 1 (cash_words e.caller e.call e.reply)) (drop 1 (cash_words f.caller f.call f.reply)) us vs
    (subst (AllByRecursion IsWord) mine (cash_are e.caller e.call e.reply h.numbers.caller h.numbers.call h.numbers.reply)) (subst (AllByRecursion IsWord) theirs (cash_are f.caller f.call f.reply k.numbers.caller k.numbers.call k.numbers.reply))
    (ap (λ (words : List (List ℕ)). row words ++ us) (sym mine) ∙ same ∙ ap (λ (words : List (List ℕ)). row words ++ vs) theirs) in
    (entry_same e f (words_same e.caller f.caller e.call f.call e.reply f.reply h.numbers.caller k.numbers.caller h.numbers.call k.numbers.call h.numbers.reply k.numbers.reply h.fits k.fits (mine ∙ cut.0 ∙ sym theirs)), cut.1)

-- as many cash entries as these, and what follows them
cash_entries_same : (es fs : List CashEntry) (rest more : List ℕ) → AllByRecursion IsCashEntry es → AllByRecursion IsCashEntry fs → length es ≡ length fs → flat_map cash_entry_line es ++ rest ≡ flat_map cash_entry_line fs ++ more → (es ≡ fs) × (rest ≡ more)
cash_entries_same [] [] rest more h k n same = (refl, same)
cash_entries_same [] (f ∷ fs) rest more h k n same = absurd (omega (arith, n))
cash_entries_same (e ∷ es) [] rest more h k n same = absurd (omega (arith, n))
cash_entries_same (e ∷ es) (f ∷ fs) rest more h k n same =
    let line = cash_line_same e f (flat_map cash_entry_line es ++ rest) (flat_map cash_entry_line fs ++ more) h.0 k.0 (sym (cash_cons e es rest h.0) ∙ same ∙ cash_cons f fs more k.0) in
    let others = cash_entries_same es fs rest more h.1 k.1 (omega (arith, n)) line.1 in
    (ap (λ (x : CashEntry). x ∷ es) line.0 ∙ ap (λ (xs : List CashEntry). f ∷ xs) others.0, others.1)

-- ---- the first part

abbrev pub count_words : ℕ → List (List ℕ)
count_words count = codes "cash" ∷ decimal count ∷ []

pub count_row : (count : ℕ) → cash_line count ≡ row (count_words count)
count_row count = simp append_assoc

cash_parts : (cash : List CashEntry) (rest : List ℕ) → cash_text cash ++ rest ≡ row (count_words (length cash)) ++ (flat_map cash_entry_line cash ++ rest)
cash_parts cash rest = append_assoc (cash_line (length cash)) (flat_map cash_entry_line cash) rest ∙ ap (λ (line : List ℕ). line ++ (flat_map cash_entry_line cash ++ rest)) (count_row (length cash))

pub count_are : (count : ℕ) → IsNumber count → AllByRecursion IsWord (count_words count)
count_are count h = (known_word (codes "cash") refl refl, (number_word count h, tt))

cash_same : (cash other : List CashEntry) (rest more : List ℕ) → IsNumber (length cash) → IsNumber (length other) → AllByRecursion IsCashEntry cash → AllByRecursion IsCashEntry other → cash_text cash ++ rest ≡ cash_text other ++ more → (cash ≡ other) × (rest ≡ more)
cash_same cash other rest more n m h k same =
    let cut = row_same (codes "cash") (codes "cash") (decimal (length cash) ∷ []) (decimal (length other) ∷ []) (flat_map cash_entry_line cash ++ rest) (flat_map cash_entry_line other ++ more)
    (count_are (length cash) n) (count_are (length other) m) (sym (cash_parts cash rest) ∙ same ∙ cash_parts other more) in
    let count = decimal_injective (length cash) (length other) n m (ap (λ (ws : List (List ℕ)). get_or ws 1 []) cut.0) in
    cash_entries_same cash other rest more h k count cut.1

part_parts : (head : Head) (game : ClosedGame) (rest : List ℕ) → IsPlayed game → play_part head game ++ rest ≡ first_lines head ++ (flat_map kept_text game.auctions ++ (cash_text game.cash ++ rest))
part_parts head game rest is =
    ap (λ (text : List ℕ). (first_lines head ++ text) ++ rest) (sym (in_order game is.goods))
    ∙ append_assoc (first_lines head) (flat_map kept_text game.auctions ++ cash_text game.cash) rest
    ∙ ap (λ (text : List ℕ). first_lines head ++ text) (append_assoc (flat_map kept_text game.auctions) (cash_text game.cash) rest)

pub parts_same : (head other_head : Head) (game other : ClosedGame) (rest other_rest : List ℕ) → HaveOwnPlayParts head other_head game other rest other_rest
parts_same head other_head game other rest other_rest = λ m n h k same.
    let heads = head_same head other_head _ _ m n (sym (part_parts head game rest h) ∙ same ∙ part_parts other_head other other_rest k) in
    let goods = h.goods ∙ sym k.goods in
    let auctions = auctions_same game.auctions other.auctions (cash_text game.cash ++ rest) (cash_text other.cash ++ other_rest) h.auctions k.auctions goods refl refl heads.1 in
    let cash = cash_same game.cash other.cash rest other_rest h.cash.count k.cash.count h.cash.entries k.cash.entries auctions.1 in
    (heads.0, record { goods = goods; histories = auctions.0; cash = cash.0 }, cash.1)
