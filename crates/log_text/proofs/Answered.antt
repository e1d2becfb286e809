-- Calls and replies are determined by their texts.
use Rattle.std.proofs.Common.{◌≡◌, ℕ, ◌^◌, ◌<◌, true, false, eqb, List, [], ◌∷◌, Option, Some, None, Result, Ok, Err, refl, sym, ap, subst, ◌∙◌, arith, ℤ, pos, negsuc, suc, decimal, lit<, codes, unsigned_abs, if◌then◌else◌, bytes_eq, flat_map}
use Rattle.std.specs.Fmt.{signed_decimal}
use Rattle.std.specs.Str.{all_ascii_digits}
use Rattle.std.specs.List.{AllByRecursion, join_with_byte}
use Rattle.std.proofs.lemmas.Bool.Decides.{nat_tests}
use Rattle.std.proofs.lemmas.Option.{same_Some}
use Rattle.std.proofs.lemmas.List.Concat.{flat_map-cons}
use Rattle.std.proofs.lemmas.List.Splits.{join_with_byte-slice_split}
use Rattle.tac_base.specs.declared.bids.Point.{Point}
use Rattle.tac_base.specs.declared.bids.BidFault.{BidFault}
use Rattle.log_text.specs.{Call, Reply, numeral, signed_numeral, fault_of, left_fault, words_of, point_words, spelling, HasFiveDigits, reply_text, call_text, IsShownCall, IsShownReply}
use Rattle.tac_base.specs.declared.calls.Call.TheVariants as calls
use Rattle.tac_base.specs.declared.calls.Reply.TheVariants as replies
use Rattle.tac_base.proofs.NumeralLaws.{both_true, decimal_digits}
use Rattle.tac_base.proofs.Signed.{Lacks, digits_lack}
use Rattle.tac_base.proofs.Faults.{bid_left}
use Rattle.text_forms.proofs.Joins.{joined_parts}
use Rattle.text_forms.proofs.PrintedLines.{join_lacks}
use Rattle.bid_strings.specs.BidForm.{points_of, judged}
use Rattle.bid_strings.proofs.PointWords.{left_word, right_word}
use Rattle.bid_strings.proofs.Laws.{bid_again, lawful_points}
use Rattle.line_protocol.specs.ReplyForms.{read_left}
use Rattle.line_protocol.proofs.JoinedWords.{lacks, words_before}
use Rattle.line_protocol.proofs.StandingPoints.{left_again}
use Rattle.log_text.proofs.Cuts.{lacks_append, number_word, signed_word, number_again, holding_again}

-- ---- calls

abbrev points_call : Result (List Point) BidFault → Option Call
points_call (Ok points) = Some (calls.Bid points)
points_call (Err fault) = None

abbrev update_call : Option ℕ → Option ℕ → Option Call
update_call (Some tick) (Some draw) = Some (calls.Update tick draw)
update_call (Some tick) None = None
update_call None draw = None

abbrev update_at : List (List ℕ) → Option Call
update_at [] = None
update_at (tick ∷ []) = None
update_at (tick ∷ draw ∷ words) = update_call (numeral 20 tick) (numeral 20 draw)

-- the call of a keyword and the words after it
abbrev call_at : List (List ℕ) → Option Call
call_at [] = None
call_at (keyword ∷ words) =
    if bytes_eq keyword (codes "bid") then points_call (judged (points_of (join_with_byte 32 words)))
    else if bytes_eq keyword (codes "withdraw") then Some calls.Withdraw
    else if bytes_eq keyword (codes "own") then Some calls.Own
    else if bytes_eq keyword (codes "update") then update_at words
    else if bytes_eq keyword (codes "publish") then Some calls.Publish
    else Some calls.Close

pair_words : (keyword : List ℕ) (m n : ℕ) → Lacks 32 keyword → m < 2 ^ 64 → n < 2 ^ 64 → words_of (join_with_byte 32 (keyword ∷ decimal m ∷ decimal n ∷ [])) ≡ keyword ∷ decimal m ∷ decimal n ∷ []
pair_words keyword m n h j k = joined_parts 32 keyword (decimal m ∷ decimal n ∷ []) h ((number_word m j).0, ((number_word n k).0, tt))

-- a bid is determined by the words of its text
bid_found : (points : List Point) → fault_of points ≡ None → call_at (codes "bid" ∷ words_of (spelling points)) ≡ Some (calls.Bid points)
bid_found points h = rw (join_with_byte-slice_split 32 (spelling points), bid_again points h) refl

call_found : (call : Call) → IsShownCall call → call_at (words_of (call_text call)) ≡ Some call
call_found (calls.Bid points) h = ap call_at (words_before (codes "bid" ∷ []) (spelling points) (lacks 32 (codes "bid") refl, tt)) ∙ bid_found points h
call_found calls.Withdraw h = refl
call_found calls.Own h = refl
call_found (calls.Update tick draw) h = ap call_at (pair_words (codes "update") tick draw (lacks 32 (codes "update") refl) h.0 h.1) ∙ rw (number_again tick h.0, number_again draw h.1) refl
call_found calls.Publish h = refl
call_found calls.Close h = refl

-- calls with the same text are equal
pub call_same : (call other : Call) → IsShownCall call → IsShownCall other → call_text call ≡ call_text other → call ≡ other
call_same call other h k e = same_Some call other (sym (call_found call h) ∙ ap (λ (text : List ℕ). call_at (words_of text)) e ∙ call_found other k)

-- ---- replies

abbrev pair_reply : (ℕ → ℕ → Reply) → Option ℕ → Option ℕ → Option Reply
pair_reply make (Some m) (Some n) = Some (make m n)
pair_reply make (Some m) None = None
pair_reply make None n = None

abbrev pair_at : (ℕ → ℕ → Reply) → List (List ℕ) → Option Reply
pair_at make [] = None
pair_at make (m ∷ []) = None
pair_at make (m ∷ n ∷ words) = pair_reply make (numeral 20 m) (numeral 20 n)

abbrev below_reply : Option ℕ → Option ℕ → Option ℕ → Option Reply
below_reply (Some need) (Some at) (Some offered) = Some (replies.BelowQuote need at offered)
below_reply (Some need) (Some at) None = None
below_reply (Some need) None offered = None
below_reply None at offered = None

abbrev below_at : List (List ℕ) → Option Reply
below_at [] = None
below_at (need ∷ []) = None
below_at (need ∷ at ∷ []) = None
below_at (need ∷ at ∷ offered ∷ words) = below_reply (numeral 20 need) (numeral 20 at) (numeral 20 offered)

abbrev own_reply : Option ℤ → Option (List Point) → Option Reply
own_reply (Some holding) (Some left) = Some (replies.Own holding left)
own_reply (Some holding) None = None
own_reply None left = None

abbrev own_at : List (List ℕ) → Option Reply
own_at [] = None
own_at (holding ∷ words) = own_reply (signed_numeral 20 holding) (read_left (join_with_byte 32 words))

abbrev refusal_at : List (List ℕ) → Option Reply
refusal_at [] = None
refusal_at (keyword ∷ words) =
    if bytes_eq keyword (codes "closed") then Some replies.Closed
    else if bytes_eq keyword (codes "wrongcall") then Some replies.WrongCall
    else if bytes_eq keyword (codes "nobid") then Some replies.NoBid
    else if bytes_eq keyword (codes "sell") then Some replies.Sell
    else if bytes_eq keyword (codes "selfcross") then Some replies.SelfCross
    else below_at words

-- the reply of a keyword and the words after it
abbrev reply_at : List (List ℕ) → Option Reply
reply_at [] = None
reply_at (keyword ∷ words) =
    if bytes_eq keyword (codes "taken") then pair_at replies.Taken words
    else if bytes_eq keyword (codes "own") then own_at words
    else if bytes_eq keyword (codes "sold") then pair_at replies.Sold words
    else if bytes_eq keyword (codes "done") then Some replies.Done
    else refusal_at words

own_found : (holding : ℤ) (left : List Point) → unsigned_abs holding < 2 ^ 64 → left_fault left ≡ None → reply_at (codes "own" ∷ signed_decimal holding ∷ words_of (spelling left)) ≡ Some (replies.Own holding left)
own_found holding left small h = rw (join_with_byte-slice_split 32 (spelling left), left_again left h, holding_again holding small) refl

reply_found : (reply : Reply) → IsShownReply reply → reply_at (words_of (reply_text reply)) ≡ Some reply
reply_found (replies.Taken bought sold) h = ap reply_at (pair_words (codes "taken") bought sold (lacks 32 (codes "taken") refl) h.0 h.1) ∙ rw (number_again bought h.0, number_again sold h.1) refl
reply_found (replies.Own holding left) h =
    ap reply_at (words_before (codes "own" ∷ signed_decimal holding ∷ []) (spelling left) (lacks 32 (codes "own") refl, ((signed_word holding h.0).0, tt))) ∙ own_found holding left h.0 h.1
reply_found (replies.Sold units price) h = ap reply_at (pair_words (codes "sold") units price (lacks 32 (codes "sold") refl) h.0 h.1) ∙ rw (number_again units h.0, number_again price h.1) refl
reply_found replies.Done h = refl
reply_found replies.Closed h = refl
reply_found replies.WrongCall h = refl
reply_found replies.NoBid h = refl
reply_found replies.Sell h = refl
reply_found replies.SelfCross h = refl
reply_found (replies.BelowQuote need at offered) h =
    ap reply_at (joined_parts 32 (codes "no") (codes "belowquote" ∷ decimal need ∷ decimal at ∷ decimal offered ∷ []) (lacks 32 (codes "no") refl)
    (lacks 32 (codes "belowquote") refl, ((number_word need h.0).0, ((number_word at h.1).0, ((number_word offered h.2).0, tt)))))
    ∙ rw (number_again need h.0, number_again at h.1, number_again offered h.2) refl

-- replies with the same text are equal
pub reply_same : (reply other : Reply) → IsShownReply reply → IsShownReply other → reply_text reply ≡ reply_text other → reply ≡ other
reply_same reply other h k e = same_Some reply other (sym (reply_found reply h) ∙ ap (λ (text : List ℕ). reply_at (words_of text)) e ∙ reply_found other k)

-- ---- bytes that occur in no call or reply

-- a byte that occurs in no number and no points
record IsStrange (byte : ℕ) : Type 0 where
  digits : (word : List ℕ) → all_ascii_digits word ≡ true → Lacks byte word
  minus : eqb 45 byte ≡ false
  opens : eqb 40 byte ≡ false
  closes : eqb 41 byte ≡ false
  space : eqb 32 byte ≡ false

-- digits are bytes below `:`
high_digits : (byte : ℕ) (word : List ℕ) → 57 < byte → all_ascii_digits word ≡ true → Lacks byte word
high_digits byte [] lt h = tt
high_digits byte (first ∷ rest) lt h =
    let both = both_true _ (all_ascii_digits rest) h in
    let digit = both.0 in
    (grind (arith, nat_tests, digit), high_digits byte rest lt both.1)

equals : IsStrange 61
equals = record { digits = λ word h. high_digits 61 word (lit< tt) h; minus = refl; opens = refl; closes = refl; space = refl }

line_end : IsStrange 10
line_end = record { digits = λ word h. digits_lack 10 word (lit< tt) h; minus = refl; opens = refl; closes = refl; space = refl }

number_lacks : (byte n : ℕ) → IsStrange byte → n < 2 ^ 64 → Lacks byte (decimal n)
number_lacks byte n s small = s.digits (decimal n) (decimal_digits n small)

signed_lack : (byte : ℕ) (z : ℤ) → IsStrange byte → unsigned_abs z < 2 ^ 64 → Lacks byte (signed_decimal z)
signed_lack byte (pos n) s small = number_lacks byte n s small
signed_lack byte (negsuc n) s small = (s.minus, number_lacks byte (suc n) s small)

points_lack : (byte : ℕ) → IsStrange byte → (points : List Point) → AllByRecursion HasFiveDigits points → AllByRecursion (Lacks byte) (flat_map point_words points)
points_lack byte s [] h = tt
points_lack byte s (point ∷ points) h =
    let units = h.0.units in
    let price = h.0.price in
    let left : Lacks byte (left_word point) = (s.opens, signed_lack byte point.units s (omega (arith, units))) in
    let right : Lacks byte (right_word point) = lacks_append byte (decimal point.price) (41 ∷ []) (number_lacks byte point.price s (omega (arith, price))) (s.closes, tt) in
    subst (λ (ws : List (List ℕ)). AllByRecursion (Lacks byte) ws) (sym (flat_map-cons point_words point points)) (left, (right, points_lack byte s points h.1))

spelling_lacks : (byte : ℕ) → IsStrange byte → (points : List Point) → left_fault points ≡ None → Lacks byte (spelling points)
spelling_lacks byte s points h =
    (s.opens, lacks_append byte (join_with_byte 32 (flat_map point_words points)) (41 ∷ []) (join_lacks byte (flat_map point_words points) s.space (points_lack byte s points (lawful_points 0 0 points h))) (s.closes, tt))

pub call_lacks : (call : Call) → IsShownCall call → Lacks 61 (call_text call)
call_lacks (calls.Bid points) h = lacks_append 61 (codes "bid ") (spelling points) (lacks 61 (codes "bid ") refl) (spelling_lacks 61 equals points (bid_left points h))
call_lacks calls.Withdraw h = lacks 61 (codes "withdraw") refl
call_lacks calls.Own h = lacks 61 (codes "own") refl
call_lacks (calls.Update tick draw) h = join_lacks 61 (codes "update" ∷ decimal tick ∷ decimal draw ∷ []) refl (lacks 61 (codes "update") refl, (number_lacks 61 tick equals h.0, (number_lacks 61 draw equals h.1, tt)))
call_lacks calls.Publish h = lacks 61 (codes "publish") refl
call_lacks calls.Close h = lacks 61 (codes "close") refl

pub reply_lacks : (reply : Reply) → IsShownReply reply → Lacks 10 (reply_text reply)
reply_lacks (replies.Taken bought sold) h = join_lacks 10 (codes "taken" ∷ decimal bought ∷ decimal sold ∷ []) refl (lacks 10 (codes "taken") refl, (number_lacks 10 bought line_end h.0, (number_lacks 10 sold line_end h.1, tt)))
reply_lacks (replies.Own holding left) h = join_lacks 10 (codes "own" ∷ signed_decimal holding ∷ spelling left ∷ []) refl (lacks 10 (codes "own") refl, (signed_lack 10 holding line_end h.0, (spelling_lacks 10 line_end left h.1, tt)))
reply_lacks (replies.Sold units price) h = join_lacks 10 (codes "sold" ∷ decimal units ∷ decimal price ∷ []) refl (lacks 10 (codes "sold") refl, (number_lacks 10 units line_end h.0, (number_lacks 10 price line_end h.1, tt)))
reply_lacks replies.Done h = lacks 10 (codes "done") refl
reply_lacks replies.Closed h = lacks 10 (codes "no closed") refl
reply_lacks replies.WrongCall h = lacks 10 (codes "no wrongcall") refl
reply_lacks replies.NoBid h = lacks 10 (codes "no nobid") refl
reply_lacks replies.Sell h = lacks 10 (codes "no sell") refl
reply_lacks replies.SelfCross h = lacks 10 (codes "no selfcross") refl
reply_lacks (replies.BelowQuote need at offered) h = join_lacks 10 (codes "no" ∷ codes "belowquote" ∷ decimal need ∷ decimal at ∷ decimal offered ∷ []) refl (lacks 10 (codes "no") refl, (lacks 10 (codes "belowquote") refl, (number_lacks 10 need line_end h.0, (number_lacks 10 at line_end h.1, (number_lacks 10 offered line_end h.2, tt)))))

pub call_one_line : (call : Call) → IsShownCall call → Lacks 10 (call_text call)
call_one_line (calls.Bid points) h = lacks_append 10 (codes "bid ") (spelling points) (lacks 10 (codes "bid ") refl) (spelling_lacks 10 line_end points (bid_left points h))
call_one_line calls.Withdraw h = lacks 10 (codes "withdraw") refl
call_one_line calls.Own h = lacks 10 (codes "own") refl
call_one_line (calls.Update tick draw) h = join_lacks 10 (codes "update" ∷ decimal tick ∷ decimal draw ∷ []) refl (lacks 10 (codes "update") refl, (number_lacks 10 tick line_end h.0, (number_lacks 10 draw line_end h.1, tt)))
call_one_line calls.Publish h = lacks 10 (codes "publish") refl
call_one_line calls.Close h = lacks 10 (codes "close") refl
