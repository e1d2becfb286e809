-- What is printed in range is read again.
use Rattle.std.proofs.Common.{◌≡◌, ℕ, ◌^◌, ◌<◌, ◌≤◌, Bool, true, false, List, [], ◌∷◌, Some, None, refl, ap, ◌∙◌, arith, ℤ, decimal, lit<, lit≤, codes, unsigned_abs}
use Rattle.std.specs.Fmt.{signed_decimal}
use Rattle.std.specs.List.{AllByRecursion, join_with_byte}
use Rattle.line_protocol.specs.Prelude.{Point, BidFault, Board, Reply, Taken, Own, Sold, Done, Closed, WrongCall, NoBid, Sell, SelfCross, BelowQuote, left_fault, words_of, spelling, IsReply}
use Rattle.tac_base.specs.declared.bids.BidFault.TheVariants as bid_faults
use Rattle.tac_base.proofs.Signed.{Lacks, decimal_lacks, signed_lacks}
use Rattle.text_forms.proofs.Joins.{joined_parts}
use Rattle.line_protocol.specs.declared.asking.RequestFault.{RequestFault}
use Rattle.line_protocol.specs.declared.asking.RequestFault.TheVariants as faults
use Rattle.line_protocol.specs.declared.saying.Said.{Said}
use Rattle.line_protocol.specs.declared.saying.Said.TheVariants.{At, Cash, Quote, Spent, Fault, TooLong, Bye}
use Rattle.line_protocol.specs.Replies.{place, reply_words, reply_text, said_text, fault_number}
use Rattle.line_protocol.specs.Ranges.{IsReplyText, IsSaid, IsSaidText}
use Rattle.line_protocol.specs.ReplyForms.{placed_of, own_of, said_of_words, read_said, fault_at, read_state, answer_of_words, answer_of}
use Rattle.line_protocol.proofs.JoinedWords.{state_word, lacks, words_before, has_words}
use Rattle.line_protocol.proofs.Numbers.{within_again, next_again, holding_again, dollars_again}
use Rattle.line_protocol.proofs.StandingPoints.{left_again}

-- ---- words without spaces

number_lacks : (limit number : ℕ) → limit < 2 ^ 32 → number ≤ limit → Lacks 32 (decimal number)
number_lacks limit number small le = decimal_lacks 32 number (lit< tt) (omega (arith, small, le))

place_lacks : (position : ℕ) → position ≤ 16777215 → Lacks 32 (place position)
place_lacks position le = (refl, number_lacks 16777215 position (lit< tt) le)

-- a line of a position and words
placed_words : (position : ℕ) (words : List (List ℕ)) → position ≤ 16777215 → AllByRecursion (Lacks 32) words → words_of (join_with_byte 32 (place position ∷ words)) ≡ place position ∷ words
placed_words position words le h = joined_parts 32 (place position) words (place_lacks position le) h

-- a line whose first word is a position
placed_again : (position : ℕ) (words : List (List ℕ)) (text : List ℕ) (said : Said) → position ≤ 16777215 → words_of text ≡ place position ∷ words → placed_of position words ≡ Some said → read_said text ≡ Some said
unfolding read_said
placed_again position words text said le are again = ap said_of_words are ∙ rw (within_again 16777215 position (lit< tt) le) again

-- a line of a position and two words or more
line_again : (position : ℕ) (words : List (List ℕ)) (said : Said) → position ≤ 16777215 → AllByRecursion (Lacks 32) words → placed_of position words ≡ Some said → read_said (join_with_byte 32 (place position ∷ words)) ≡ Some said
line_again position words said le h again = placed_again position words (join_with_byte 32 (place position ∷ words)) said le (placed_words position words le h) again

-- ---- replies

own_again : (holding : ℤ) (left : List Point) → unsigned_abs holding ≤ 1000000 → left_fault left ≡ None → own_of (signed_decimal holding ∷ words_of (spelling left)) ≡ Some (Own holding left)
own_again holding left small limits =
    let h = has_words (spelling left) in
    ap (λ (ws : List (List ℕ)). own_of (signed_decimal holding ∷ ws)) h.2.words ∙ rw (holding_again holding small, h.2.joined, left_again left limits) refl

reply_again : (position : ℕ) (reply : Reply) → position ≤ 16777215 → IsReply reply → read_said (said_text (At position reply)) ≡ Some (At position reply)
reply_again position (Taken bought sold) le range =
    line_again position (reply_words (Taken bought sold)) (At position (Taken bought sold)) le
    (lacks 32 (codes "taken") refl, (number_lacks 255 bought (lit< tt) range.0, (number_lacks 255 sold (lit< tt) range.1, tt)))
    (rw (next_again 255 bought (decimal sold ∷ []) (lit< tt) range.0, next_again 255 sold [] (lit< tt) range.1) refl)
reply_again position (Own holding left) le range =
    let small = range.0 in
    placed_again position (codes "own" ∷ signed_decimal holding ∷ words_of (spelling left)) (said_text (At position (Own holding left))) (At position (Own holding left)) le
    (words_before (place position ∷ codes "own" ∷ signed_decimal holding ∷ []) (spelling left)
    (place_lacks position le, (lacks 32 (codes "own") refl, (signed_lacks 32 holding (lit< tt) (omega (arith, small)), tt))))
    (rw (own_again holding left range.0 range.1) refl)
reply_again position (Sold units price) le range =
    line_again position (reply_words (Sold units price)) (At position (Sold units price)) le
    (lacks 32 (codes "sold") refl, (number_lacks 255 units (lit< tt) range.0, (number_lacks 10001 price (lit< tt) range.1, tt)))
    (rw (next_again 255 units (decimal price ∷ []) (lit< tt) range.0, next_again 10001 price [] (lit< tt) range.1) refl)
reply_again position Done le range = line_again position (reply_words Done) (At position Done) le (lacks 32 (codes "done") refl, tt) refl
reply_again position Closed le range = line_again position (reply_words Closed) (At position Closed) le (lacks 32 (codes "no") refl, (lacks 32 (codes "closed") refl, tt)) refl
reply_again position WrongCall le range = line_again position (reply_words WrongCall) (At position WrongCall) le (lacks 32 (codes "no") refl, (lacks 32 (codes "wrongcall") refl, tt)) refl
reply_again position NoBid le range = line_again position (reply_words NoBid) (At position NoBid) le (lacks 32 (codes "no") refl, (lacks 32 (codes "nobid") refl, tt)) refl
reply_again position Sell le range = line_again position (reply_words Sell) (At position Sell) le (lacks 32 (codes "no") refl, (lacks 32 (codes "sell") refl, tt)) refl
reply_again position SelfCross le range = line_again position (reply_words SelfCross) (At position SelfCross) le (lacks 32 (codes "no") refl, (lacks 32 (codes "selfcross") refl, tt)) refl
reply_again position (BelowQuote need at offered) le range =
    line_again position (reply_words (BelowQuote need at offered)) (At position (BelowQuote need at offered)) le
    (lacks 32 (codes "no") refl, (lacks 32 (codes "belowquote") refl, (number_lacks 255 need (lit< tt) range.0, (number_lacks 10001 at (lit< tt) range.1, (number_lacks 255 offered (lit< tt) range.2, tt)))))
    (rw (next_again 255 need (decimal at ∷ decimal offered ∷ []) (lit< tt) range.0, next_again 10001 at (decimal offered ∷ []) (lit< tt) range.1, next_again 255 offered [] (lit< tt) range.2) refl)

-- ---- the other lines

state_again : (closed : Bool) → read_state (state_word closed) ≡ Some closed
state_again true = refl
state_again false = refl

state_lacks : (closed : Bool) → Lacks 32 (state_word closed)
state_lacks true = lacks 32 (codes "closed") refl
state_lacks false = lacks 32 (codes "open") refl

quote_again : (board : Board) → IsSaid (Quote board) → read_said (said_text (Quote board)) ≡ Some (Quote board)
quote_again board range =
    line_again board.count (codes "quote" ∷ decimal board.bid ∷ decimal board.ask ∷ state_word board.closed ∷ []) (Quote board) range.0
    (lacks 32 (codes "quote") refl, (number_lacks 10001 board.bid (lit< tt) range.1, (number_lacks 10001 board.ask (lit< tt) range.2, (state_lacks board.closed, tt))))
    (rw (next_again 10001 board.bid (decimal board.ask ∷ state_word board.closed ∷ []) (lit< tt) range.1, next_again 10001 board.ask (state_word board.closed ∷ []) (lit< tt) range.2, state_again board.closed) refl)

cash_again : (position : ℕ) (dollars : ℤ) → position ≤ 16777215 → unsigned_abs dollars < 10 ^ 18 → read_said (said_text (Cash position dollars)) ≡ Some (Cash position dollars)
cash_again position dollars le few =
    line_again position (codes "cash" ∷ signed_decimal dollars ∷ []) (Cash position dollars) le
    (lacks 32 (codes "cash") refl, (signed_lacks 32 dollars (lit< tt) (omega (arith, few)), tt)) (rw (dollars_again dollars few) refl)

number_again : (fault : BidFault) → (fault_number fault ≤ 5) × (fault_at (fault_number fault) ≡ Some fault)
number_again bid_faults.Syntax = (lit≤ tt, refl)
number_again bid_faults.TooManyPoints = (lit≤ tt, refl)
number_again bid_faults.TooManyUnits = (lit≤ tt, refl)
number_again bid_faults.Price = (lit≤ tt, refl)
number_again bid_faults.ZeroUnits = (lit≤ tt, refl)

bid_fault_again : (fault : BidFault) → read_said (said_text (Fault (faults.Bid fault))) ≡ Some (Fault (faults.Bid fault))
unfolding read_said
bid_fault_again fault =
    let n = number_again fault in
    let number = fault_number fault in
    ap said_of_words (joined_parts 32 (codes "no") (codes "bid" ∷ decimal number ∷ []) (lacks 32 (codes "no") refl) (lacks 32 (codes "bid") refl, (number_lacks 5 number (lit< tt) n.0, tt)))
    ∙ rw (next_again 5 number [] (lit< tt) n.0, n.1) refl

fault_again : (fault : RequestFault) → read_said (said_text (Fault fault)) ≡ Some (Fault fault)
unfolding read_said
fault_again faults.Syntax = refl
fault_again faults.NoSuchAuction = refl
fault_again (faults.Bid fault) = bid_fault_again fault
fault_again faults.Memory = refl

said_again : (said : Said) → IsSaid said → read_said (said_text said) ≡ Some said
unfolding read_said
said_again (At position reply) range = reply_again position reply range.0 range.1
said_again (Cash position dollars) range = cash_again position dollars range.0 range.1
said_again (Quote board) range = quote_again board range
said_again Spent range = refl
said_again (Fault fault) range = fault_again fault
said_again TooLong range = refl
said_again Bye range = refl

pub text_again : (text : List ℕ) (said : Said) → IsSaidText text said → read_said text ≡ Some said
text_again text said is = ap read_said is.text ∙ said_again said is.range

-- ---- a reply alone

answer_found : (reply : Reply) → IsReply reply → answer_of (reply_text reply) ≡ Some reply
unfolding answer_of
answer_found (Taken bought sold) range =
    ap answer_of_words (joined_parts 32 (codes "taken") (decimal bought ∷ decimal sold ∷ []) (lacks 32 (codes "taken") refl) (number_lacks 255 bought (lit< tt) range.0, (number_lacks 255 sold (lit< tt) range.1, tt)))
    ∙ rw (next_again 255 bought (decimal sold ∷ []) (lit< tt) range.0, next_again 255 sold [] (lit< tt) range.1) refl
answer_found (Own holding left) range =
    let small = range.0 in
    ap answer_of_words (words_before (codes "own" ∷ signed_decimal holding ∷ []) (spelling left) (lacks 32 (codes "own") refl, (signed_lacks 32 holding (lit< tt) (omega (arith, small)), tt)))
    ∙ own_again holding left range.0 range.1
answer_found (Sold units price) range =
    ap answer_of_words (joined_parts 32 (codes "sold") (decimal units ∷ decimal price ∷ []) (lacks 32 (codes "sold") refl) (number_lacks 255 units (lit< tt) range.0, (number_lacks 10001 price (lit< tt) range.1, tt)))
    ∙ rw (next_again 255 units (decimal price ∷ []) (lit< tt) range.0, next_again 10001 price [] (lit< tt) range.1) refl
answer_found Done range = refl
answer_found Closed range = refl
answer_found WrongCall range = refl
answer_found NoBid range = refl
answer_found Sell range = refl
answer_found SelfCross range = refl
answer_found (BelowQuote need at offered) range =
    ap answer_of_words (joined_parts 32 (codes "no") (codes "belowquote" ∷ decimal need ∷ decimal at ∷ decimal offered ∷ []) (lacks 32 (codes "no") refl)
    (lacks 32 (codes "belowquote") refl, (number_lacks 255 need (lit< tt) range.0, (number_lacks 10001 at (lit< tt) range.1, (number_lacks 255 offered (lit< tt) range.2, tt)))))
    ∙ rw (next_again 255 need (decimal at ∷ decimal offered ∷ []) (lit< tt) range.0, next_again 10001 at (decimal offered ∷ []) (lit< tt) range.1, next_again 255 offered [] (lit< tt) range.2) refl

pub answer_again : (text : List ℕ) (reply : Reply) → IsReplyText text reply → answer_of text ≡ Some reply
answer_again text reply is = ap answer_of is.text ∙ answer_found reply is.range
