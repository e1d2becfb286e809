-- The words of a JSON text determine its reply: so different replies have different texts.
use Rattle.std.proofs.Common.{◌≡◌, ℕ, ◌^◌, ◌<◌, ◌≤◌, Bool, true, false, eqb, List, [], ◌∷◌, ◌++◌, Option, Some, None, drop, get_or, refl, sym, ap, ◌∙◌, arith, ℤ, pos, decimal, lit<, codes, unsigned_abs, if◌then◌else◌, bytes_eq}
use Rattle.std.specs.Fmt.{signed_decimal}
use Rattle.std.specs.List.{AllByRecursion}
use Rattle.std.proofs.lemmas.Fmt.{length-decimal-le}
use Rattle.json_dialect.specs.Prelude.{Point, BidFault, Board, Reply, HasFiveDigits, RequestFault, Said, IsSaid}
use Rattle.tac_base.specs.declared.bids.BidFault.TheVariants as bids
use Rattle.tac_base.specs.declared.calls.Reply.TheVariants.{Taken, Own, Sold, Done, Closed, WrongCall, NoBid, Sell, SelfCross, BelowQuote}
use Rattle.tac_base.specs.Numerals.{numeral, signed_numeral}
use Rattle.tac_base.proofs.NumeralLaws.{numeral_again}
use Rattle.tac_base.proofs.Signed.{signed_again}
use Rattle.bid_strings.proofs.Laws.{lawful_points}
use Rattle.line_protocol.specs.declared.asking.RequestFault.TheVariants as faults
use Rattle.line_protocol.specs.declared.saying.Said.TheVariants.{At, Cash, Quote, Spent, Fault, TooLong, Bye}
use Rattle.tac_base.specs.Ranges.{IsReply}
use Rattle.json_dialect.specs.JsonReplies.{reply_members, cash_members, quote_members, json_text}
use Rattle.json_dialect.proofs.TextWords.{words_in, point_words, placed_words, cash_words, own_words, taken_words, sold_words, below_words, open_words, fault_words}

-- ---- numbers

abbrev or_none : Option ℕ → ℕ
or_none None = 0
or_none (Some n) = n

abbrev or_zero : Option ℤ → ℤ
or_zero None = pos 0
or_zero (Some z) = z

pub number : List ℕ → ℕ
number word = or_none (numeral 20 word)

pub signed : List ℕ → ℤ
signed word = or_zero (signed_numeral 20 word)

number_again : (n : ℕ) → n < 2 ^ 64 → number (decimal n) ≡ n
unfolding number
number_again n small = ap or_none (numeral_again 20 n small (length-decimal-le 20 n (lit< tt) (omega (arith, small)) small))

number_back : (z : ℤ) → unsigned_abs z < 2 ^ 64 → signed (signed_decimal z) ≡ z
unfolding signed
number_back z small = ap or_zero (signed_again 20 z small (length-decimal-le 20 (unsigned_abs z) (lit< tt) (omega (arith, small)) small))

-- ---- what words mean

abbrev points_meant : List (List ℕ) → List Point
points_meant [] = []
points_meant (units ∷ []) = []
points_meant (units ∷ price ∷ words) = record { units = signed units; price = number price } ∷ points_meant words

points_again : (points : List Point) → AllByRecursion HasFiveDigits points → points_meant (point_words points []) ≡ points
points_again [] h = refl
points_again (point ∷ points) h =
    let digits = h.0 in
    let units = digits.units in
    let price = digits.price in
    rw (number_back point.units (omega (arith, units)), number_again point.price (omega (arith, price)), points_again points h.1) refl

abbrev word_at : ℕ → List (List ℕ) → List ℕ
word_at i words = get_or words i []

abbrev refusal_meant : List ℕ → List (List ℕ) → Reply
refusal_meant word words =
    if bytes_eq word (codes "closed") then Closed
    else if bytes_eq word (codes "wrongcall") then WrongCall
    else if bytes_eq word (codes "nobid") then NoBid
    else if bytes_eq word (codes "sell") then Sell
    else if bytes_eq word (codes "selfcross") then SelfCross
    else BelowQuote (number (word_at 2 words)) (number (word_at 4 words)) (number (word_at 6 words))

abbrev reply_meant : List ℕ → List (List ℕ) → Reply
reply_meant key words =
    if bytes_eq key (codes "taken") then Taken (number (word_at 0 words)) (number (word_at 1 words))
    else if bytes_eq key (codes "own") then Own (signed (word_at 0 words)) (points_meant (drop 2 words))
    else if bytes_eq key (codes "sold") then Sold (number (word_at 0 words)) (number (word_at 1 words))
    else if bytes_eq key (codes "done") then Done
    else refusal_meant (word_at 0 words) words

abbrev board_of : ℕ → List (List ℕ) → Board
board_of count words = record { count = count; bid = number (word_at 0 words); ask = number (word_at 1 words); closed = bytes_eq (word_at 3 words) (codes "false") }

abbrev placed_meant : ℕ → List (List ℕ) → Said
placed_meant position [] = Bye
placed_meant position (key ∷ words) =
    if bytes_eq key (codes "cash") then Cash position (signed (word_at 0 words))
    else if bytes_eq key (codes "quote") then Quote (board_of position words)
    else At position (reply_meant key words)

abbrev fault_meant : ℕ → BidFault
fault_meant number =
    if eqb number 1 then bids.Syntax
    else if eqb number 2 then bids.TooManyPoints
    else if eqb number 3 then bids.TooManyUnits
    else if eqb number 4 then bids.Price
    else bids.ZeroUnits

abbrev unplaced_meant : List ℕ → List (List ℕ) → Said
unplaced_meant word words =
    if bytes_eq word (codes "spent") then Spent
    else if bytes_eq word (codes "toolong") then TooLong
    else if bytes_eq word (codes "syntax") then Fault faults.Syntax
    else if bytes_eq word (codes "auction") then Fault faults.NoSuchAuction
    else if bytes_eq word (codes "memory") then Fault faults.Memory
    else Fault (faults.Bid (fault_meant (number (word_at 1 words))))

abbrev meant : List (List ℕ) → Said
meant [] = Bye
meant (first ∷ []) = Bye
meant (first ∷ second ∷ words) =
    if bytes_eq first (codes "at") then placed_meant (number second) words
    else if bytes_eq first (codes "no") then unplaced_meant second words
    else Bye

-- ---- a text determines what it was made of

placed_again : (position : ℕ) (words : List (List ℕ)) → position < 2 ^ 64 → meant (codes "at" ∷ decimal position ∷ words) ≡ placed_meant position words
placed_again position words small = ap (λ (n : ℕ). placed_meant n words) (number_again position small)

reply_again : (position : ℕ) (reply : Reply) → position ≤ 16777215 → IsReply reply → placed_meant position (words_in (44 ∷ (reply_members reply ++ codes "}"))) ≡ At position reply
reply_again position (Taken bought sold) le range =
    let b : bought ≤ 255 = range.0 in
    let s : sold ≤ 255 = range.1 in
    let bought_small : bought < 2 ^ 64 = omega (arith, b) in
    let sold_small : sold < 2 ^ 64 = omega (arith, s) in
    ap (placed_meant position) (taken_words bought sold bought_small sold_small) ∙ rw (number_again bought bought_small, number_again sold sold_small) refl
reply_again position (Own holding left) le range =
    let h : unsigned_abs holding ≤ 1000000 = range.0 in
    let small : unsigned_abs holding < 2 ^ 64 = omega (arith, h) in
    let digits = lawful_points 0 0 left range.1 in
    ap (placed_meant position) (own_words holding left small digits) ∙ rw (number_back holding small, points_again left digits) refl
reply_again position (Sold units price) le range =
    let u : units ≤ 255 = range.0 in
    let p : price ≤ 10001 = range.1 in
    let units_small : units < 2 ^ 64 = omega (arith, u) in
    let price_small : price < 2 ^ 64 = omega (arith, p) in
    ap (placed_meant position) (sold_words units price units_small price_small) ∙ rw (number_again units units_small, number_again price price_small) refl
reply_again position Done le range = refl
reply_again position Closed le range = refl
reply_again position WrongCall le range = refl
reply_again position NoBid le range = refl
reply_again position Sell le range = refl
reply_again position SelfCross le range = refl
reply_again position (BelowQuote need at offered) le range =
    let n : need ≤ 255 = range.0 in
    let a : at ≤ 10001 = range.1 in
    let o : offered ≤ 255 = range.2 in
    let need_small : need < 2 ^ 64 = omega (arith, n) in
    let at_small : at < 2 ^ 64 = omega (arith, a) in
    let offered_small : offered < 2 ^ 64 = omega (arith, o) in
    ap (placed_meant position) (below_words need at offered need_small at_small offered_small) ∙ rw (number_again need need_small, number_again at at_small, number_again offered offered_small) refl

board_again : (board : Board) → board.count ≤ 16777215 → board.bid ≤ 10001 → board.ask ≤ 10001 → (closed : Bool) → board.closed ≡ closed → placed_meant board.count (words_in (44 ∷ (quote_members board ++ codes "}"))) ≡ Quote board
board_again board count bid ask true e =
    let bid_small : board.bid < 2 ^ 64 = omega (arith, bid) in
    let ask_small : board.ask < 2 ^ 64 = omega (arith, ask) in
    rw e (ap (placed_meant board.count) (open_words board.bid board.ask (codes "\"open\":false") bid_small ask_small) ∙ rw (number_again board.bid bid_small, number_again board.ask ask_small) refl)
board_again board count bid ask false e =
    let bid_small : board.bid < 2 ^ 64 = omega (arith, bid) in
    let ask_small : board.ask < 2 ^ 64 = omega (arith, ask) in
    rw e (ap (placed_meant board.count) (open_words board.bid board.ask (codes "\"open\":true") bid_small ask_small) ∙ rw (number_again board.bid bid_small, number_again board.ask ask_small) refl)

abbrev faulty : ℕ → Said
faulty number = Fault (faults.Bid (fault_meant number))

bid_fault_again : (fault : BidFault) → meant (words_in (json_text (Fault (faults.Bid fault)))) ≡ Fault (faults.Bid fault)
bid_fault_again bids.Syntax = ap meant (fault_words 1 (lit< tt)) ∙ ap faulty (number_again 1 (lit< tt))
bid_fault_again bids.TooManyPoints = ap meant (fault_words 2 (lit< tt)) ∙ ap faulty (number_again 2 (lit< tt))
bid_fault_again bids.TooManyUnits = ap meant (fault_words 3 (lit< tt)) ∙ ap faulty (number_again 3 (lit< tt))
bid_fault_again bids.Price = ap meant (fault_words 4 (lit< tt)) ∙ ap faulty (number_again 4 (lit< tt))
bid_fault_again bids.ZeroUnits = ap meant (fault_words 5 (lit< tt)) ∙ ap faulty (number_again 5 (lit< tt))

fault_again : (fault : RequestFault) → meant (words_in (json_text (Fault fault))) ≡ Fault fault
fault_again faults.Syntax = refl
fault_again faults.NoSuchAuction = refl
fault_again (faults.Bid fault) = bid_fault_again fault
fault_again faults.Memory = refl

pub meant_again : (said : Said) → IsSaid said → meant (words_in (json_text said)) ≡ said
meant_again (At position reply) range =
    let le : position ≤ 16777215 = range.0 in
    let small : position < 2 ^ 64 = omega (arith, le) in
    ap meant (placed_words position (reply_members reply) small) ∙ placed_again position (words_in (44 ∷ (reply_members reply ++ codes "}"))) small ∙ reply_again position reply le range.1
meant_again (Cash position dollars) range =
    let le : position ≤ 16777215 = range.0 in
    let few : unsigned_abs dollars < 10 ^ 18 = range.1 in
    let small : position < 2 ^ 64 = omega (arith, le) in
    let fits : unsigned_abs dollars < 2 ^ 64 = omega (arith, few) in
    ap meant (placed_words position (cash_members dollars) small) ∙ placed_again position (words_in (44 ∷ (cash_members dollars ++ codes "}"))) small ∙ ap (placed_meant position) (cash_words dollars fits) ∙ ap (Cash position) (number_back dollars fits)
meant_again (Quote board) range =
    let le : board.count ≤ 16777215 = range.0 in
    let small : board.count < 2 ^ 64 = omega (arith, le) in
    ap meant (placed_words board.count (quote_members board) small) ∙ placed_again board.count (words_in (44 ∷ (quote_members board ++ codes "}"))) small ∙ board_again board range.0 range.1 range.2 board.closed refl
meant_again Spent range = refl
meant_again (Fault fault) range = fault_again fault
meant_again TooLong range = refl
meant_again Bye range = refl

pub meant_apart : (one other : Said) → IsSaid one → IsSaid other → json_text one ≡ json_text other → one ≡ other
meant_apart one other h k e = sym (meant_again one h) ∙ ap (λ (text : List ℕ). meant (words_in text)) e ∙ meant_again other k
