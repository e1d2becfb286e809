-- Texts without a line end.
use Rattle.std.proofs.Common.{◌≡◌, ◌≢◌, ℕ, ◌^◌, ◌<◌, true, not, eqb, List, [], ◌∷◌, ◌++◌, None, refl, arith, ℤ, decimal, lit<, unsigned_abs, codes, flat_map}
use Rattle.std.specs.Fmt.{signed_decimal}
use Rattle.std.specs.List.{AllByRecursion, list_all, join_with_byte}
use Rattle.std.proofs.lemmas.List.Elements.{All-append}
use Rattle.line_protocol.specs.Prelude.{Point, left_fault, spelling, point_words, Reply, Taken, Own, Sold, Done, Closed, WrongCall, NoBid, Sell, SelfCross, BelowQuote, BidFault}
use Rattle.tac_base.proofs.Signed.{Lacks, decimal_lacks, signed_lacks}
use Rattle.text_forms.proofs.PrintedLines.{none_is}
use Rattle.bid_strings.proofs.Laws.{points_lack, lawful_points}
use Rattle.tac_base.specs.declared.bids.BidFault.TheVariants as bid_faults
use Rattle.line_protocol.specs.declared.asking.RequestFault.TheVariants as faults
use Rattle.line_protocol.specs.declared.saying.Said.TheVariants.{At}
use Rattle.line_protocol.specs.Replies.{place, reply_text, said_text, fault_number, fault_words, IsOneLine}
use Rattle.line_protocol.proofs.JoinedWords.{lacks}

pub plain_line : (word : List ℕ) → Lacks 10 word → IsOneLine word
plain_line word h = none_is 10 word h

-- a word that is tested byte for byte
pub known_line : (word : List ℕ) → list_all (λ b. not (eqb b 10)) word ≡ true → IsOneLine word
known_line word h = plain_line word (lacks 10 word h)

pub number_line : (n : ℕ) → n < 2 ^ 32 → IsOneLine (decimal n)
number_line n small = plain_line (decimal n) (decimal_lacks 10 n (lit< tt) (omega (arith, small)))

pub signed_line : (z : ℤ) → unsigned_abs z < 2 ^ 64 → IsOneLine (signed_decimal z)
signed_line z small = plain_line (signed_decimal z) (signed_lacks 10 z (lit< tt) small)

pub place_line : (position : ℕ) → position < 2 ^ 32 → IsOneLine (place position)
place_line position small = All-append (λ byte. byte ≢ 10) (codes "@") (decimal position) (known_line (codes "@") refl) (number_line position small)

-- words without a line end that are joined by spaces
pub joined_line : (words : List (List ℕ)) → AllByRecursion IsOneLine words → IsOneLine (join_with_byte 32 words)
joined_line [] h = known_line [] refl
joined_line (word ∷ []) h = h.0
joined_line (word ∷ next ∷ words) h =
    All-append (λ byte. byte ≢ 10) word (32 ∷ join_with_byte 32 (next ∷ words)) h.0
    (All-append (λ byte. byte ≢ 10) (codes " ") (join_with_byte 32 (next ∷ words)) (known_line (codes " ") refl) (joined_line (next ∷ words) h.1))

words_line : (words : List (List ℕ)) → AllByRecursion (Lacks 10) words → AllByRecursion IsOneLine words
words_line [] h = tt
words_line (word ∷ words) h = (plain_line word h.0, words_line words h.1)

pub left_line : (left : List Point) → left_fault left ≡ None → IsOneLine (spelling left)
left_line left h =
    let inner : IsOneLine (join_with_byte 32 (flat_map point_words left)) = joined_line (flat_map point_words left) (words_line (flat_map point_words left) (points_lack 10 (lit< tt) left (lawful_points 0 0 left h))) in
    All-append (λ byte. byte ≢ 10) (codes "(") (join_with_byte 32 (flat_map point_words left) ++ 41 ∷ []) (known_line (codes "(") refl)
    (All-append (λ byte. byte ≢ 10) (join_with_byte 32 (flat_map point_words left)) (41 ∷ []) inner (known_line (codes ")") refl))

-- a reply after its position
pub placed : (position : ℕ) (reply : Reply) → said_text (At position reply) ≡ place position ++ 32 ∷ reply_text reply
placed position (Taken bought sold) = refl
placed position (Own holding left) = refl
placed position (Sold units price) = refl
placed position Done = refl
placed position Closed = refl
placed position WrongCall = refl
placed position NoBid = refl
placed position Sell = refl
placed position SelfCross = refl
placed position (BelowQuote need at offered) = refl

pub placed_line : (position : ℕ) (reply : Reply) → position < 2 ^ 32 → IsOneLine (reply_text reply) → IsOneLine (said_text (At position reply))
placed_line position reply small h =
    rw (placed position reply) (All-append (λ byte. byte ≢ 10) (place position) (32 ∷ reply_text reply) (place_line position small)
    (All-append (λ byte. byte ≢ 10) (codes " ") (reply_text reply) (known_line (codes " ") refl) h))

small_number : (fault : BidFault) → fault_number fault < 2 ^ 32
small_number bid_faults.Syntax = lit< tt
small_number bid_faults.TooManyPoints = lit< tt
small_number bid_faults.TooManyUnits = lit< tt
small_number bid_faults.Price = lit< tt
small_number bid_faults.ZeroUnits = lit< tt

pub fault_line : (fault : BidFault) → IsOneLine (join_with_byte 32 (fault_words (faults.Bid fault)))
fault_line fault = joined_line (fault_words (faults.Bid fault)) (known_line (codes "no") refl, (known_line (codes "bid") refl, (number_line (fault_number fault) (small_number fault), tt)))
