-- How a reply line is read, word by word.
use Rattle.std.specs.Prelude.{ℕ, ◌==◌, nat_le, if◌then◌else◌, List, [], ◌∷◌, ℤ, Option, Some, None, Result, Ok, Err, Bool, true, false, codes, unsigned_abs, bytes_eq}
use Rattle.std.specs.List.{join_with_byte}
use Rattle.line_protocol.specs.Prelude.{Point, BidFault, Reply, Taken, Own, Sold, Done, Closed, WrongCall, NoBid, Sell, SelfCross, BelowQuote, numeral, signed_numeral, CASH_DIGITS, POSITION, SHOWN_HOLDING, SHOWN_PRICE, words_of, points_of, judged}
use Rattle.tac_base.specs.declared.bids.BidFault.TheVariants as bid_faults
use Rattle.line_protocol.specs.declared.asking.RequestFault.TheVariants as faults
use Rattle.line_protocol.specs.declared.saying.Said.{Said}
use Rattle.line_protocol.specs.declared.saying.Said.TheVariants.{At, Cash, Quote, Spent, Fault, TooLong, Bye}

infixl 10 ◌>>=◌
abbrev pub ◌>>=◌ : {A B : Type 0} → Option A → (A → Option B) → Option B
None >>= f = None
(Some x) >>= f = f x

-- a value, if no word is left
abbrev pub ended : {A : Type 0} → A → List (List ℕ) → Option A
ended value [] = Some value
ended value (word ∷ words) = None

-- ---- numbers

abbrev pub at_most : ℕ → ℕ → Option ℕ
at_most limit number = if nat_le number limit then Some number else None

-- the number of a numeral, if it is at most a limit
abbrev pub read_at_most : ℕ → List ℕ → Option ℕ
read_at_most limit word = numeral 10 word >>= at_most limit

-- the number of the next word, and the words after it
abbrev pub next_within : ℕ → List (List ℕ) → Option (ℕ × List (List ℕ))
next_within limit [] = None
next_within limit (word ∷ words) = read_at_most limit word >>= λ number. Some (number, words)

abbrev pub small_holding : ℤ → Option ℤ
small_holding holding = if nat_le (unsigned_abs holding) (unsigned_abs SHOWN_HOLDING) then Some holding else None

-- a holding
abbrev pub holding_of : List ℕ → Option ℤ
holding_of word = signed_numeral 10 word >>= small_holding

-- `@` and a position
abbrev pub read_place : List ℕ → Option ℕ
read_place [] = None
read_place (first ∷ number) = if first == 64 then read_at_most POSITION number else None

-- ---- replies

abbrev pub points_or_none : Result (List Point) BidFault → Option (List Point)
points_or_none (Err fault) = None
points_or_none (Ok points) = Some points

-- standing points, or none
abbrev pub read_left : List ℕ → Option (List Point)
read_left text = if bytes_eq text (codes "()") then Some [] else points_or_none (judged (points_of text))

abbrev pub taken_of : List (List ℕ) → Option Reply
taken_of words = next_within 255 words >>= λ bought. next_within 255 bought.1 >>= λ sold. ended (Taken bought.0 sold.0) sold.1

abbrev pub sold_of : List (List ℕ) → Option Reply
sold_of words = next_within 255 words >>= λ units. next_within SHOWN_PRICE units.1 >>= λ price. ended (Sold units.0 price.0) price.1

abbrev pub below_of : List (List ℕ) → Option Reply
below_of words = next_within 255 words >>= λ need. next_within SHOWN_PRICE need.1 >>= λ at. next_within 255 at.1 >>= λ offered. ended (BelowQuote need.0 at.0 offered.0) offered.1

-- a holding and the rest of the line
abbrev pub own_of : List (List ℕ) → Option Reply
own_of [] = None
own_of (holding ∷ []) = None
own_of (holding ∷ word ∷ words) = holding_of holding >>= λ held. read_left (join_with_byte 32 (word ∷ words)) >>= λ left. Some (Own held left)

-- what follows `no`
abbrev pub refused_of : List (List ℕ) → Option Reply
refused_of [] = None
refused_of (keyword ∷ words) =
    if bytes_eq keyword (codes "closed") then ended Closed words
    else if bytes_eq keyword (codes "wrongcall") then ended WrongCall words
    else if bytes_eq keyword (codes "nobid") then ended NoBid words
    else if bytes_eq keyword (codes "sell") then ended Sell words
    else if bytes_eq keyword (codes "selfcross") then ended SelfCross words
    else if bytes_eq keyword (codes "belowquote") then below_of words
    else None

-- a reply without its position
abbrev pub read_reply_words : List ℕ → List (List ℕ) → Option Reply
read_reply_words keyword words =
    if bytes_eq keyword (codes "taken") then taken_of words
    else if bytes_eq keyword (codes "own") then own_of words
    else if bytes_eq keyword (codes "sold") then sold_of words
    else if bytes_eq keyword (codes "done") then ended Done words
    else if bytes_eq keyword (codes "no") then refused_of words
    else None

-- ---- the other lines

abbrev pub read_cash : ℕ → List (List ℕ) → Option Said
read_cash position [] = None
read_cash position (word ∷ words) = signed_numeral CASH_DIGITS word >>= λ dollars. ended (Cash position dollars) words

abbrev pub read_state : List ℕ → Option Bool
read_state word =
    if bytes_eq word (codes "open") then Some false
    else if bytes_eq word (codes "closed") then Some true
    else None

abbrev pub next_state : List (List ℕ) → Option (Bool × List (List ℕ))
next_state [] = None
next_state (word ∷ words) = read_state word >>= λ closed. Some (closed, words)

abbrev pub quote_of : ℕ → List (List ℕ) → Option Said
quote_of count words =
    next_within SHOWN_PRICE words >>= λ bid. next_within SHOWN_PRICE bid.1 >>= λ ask. next_state ask.1 >>= λ closed.
    ended (Quote (record { count = count; bid = bid.0; ask = ask.0; closed = closed.0 })) closed.1

-- what follows a position
abbrev pub placed_of : ℕ → List (List ℕ) → Option Said
placed_of position [] = None
placed_of position (keyword ∷ words) =
    if bytes_eq keyword (codes "cash") then read_cash position words
    else if bytes_eq keyword (codes "quote") then quote_of position words
    else (read_reply_words keyword words >>= λ reply. Some (At position reply))

abbrev pub fault_at : ℕ → Option BidFault
fault_at number =
    if number == 1 then Some bid_faults.Syntax
    else if number == 2 then Some bid_faults.TooManyPoints
    else if number == 3 then Some bid_faults.TooManyUnits
    else if number == 4 then Some bid_faults.Price
    else if number == 5 then Some bid_faults.ZeroUnits
    else None

abbrev pub bid_fault_of : List (List ℕ) → Option Said
bid_fault_of words = next_within 5 words >>= λ number. fault_at number.0 >>= λ fault. ended (Fault (faults.Bid fault)) number.1

-- what follows `no` without a position
abbrev pub unplaced_of : List (List ℕ) → Option Said
unplaced_of [] = None
unplaced_of (keyword ∷ words) =
    if bytes_eq keyword (codes "spent") then ended Spent words
    else if bytes_eq keyword (codes "syntax") then ended (Fault faults.Syntax) words
    else if bytes_eq keyword (codes "auction") then ended (Fault faults.NoSuchAuction) words
    else if bytes_eq keyword (codes "toolong") then ended TooLong words
    else if bytes_eq keyword (codes "memory") then ended (Fault faults.Memory) words
    else if bytes_eq keyword (codes "bid") then bid_fault_of words
    else None

abbrev pub said_of_words : List (List ℕ) → Option Said
said_of_words [] = None
said_of_words (first ∷ words) =
    if bytes_eq first (codes "bye") then ended Bye words
    else if bytes_eq first (codes "no") then unplaced_of words
    else (read_place first >>= λ position. placed_of position words)

-- the reply that a line gives
unfoldable pub read_said : List ℕ → Option Said
read_said line = said_of_words (words_of line)

-- ---- a reply alone

abbrev pub answer_of_words : List (List ℕ) → Option Reply
answer_of_words [] = None
answer_of_words (keyword ∷ words) = read_reply_words keyword words

-- the reply that a text without a position gives
unfoldable pub answer_of : List ℕ → Option Reply
answer_of text = answer_of_words (words_of text)
