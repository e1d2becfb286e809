-- What is read was spelled so, and what is spelled so is read.
use Rattle.std.proofs.Common.{◌≡◌, ℕ, suc, ◌+◌, ◌-◌, ◌^◌, ◌<◌, ◌≤◌, Bool, true, false, cond, ◌&&◌, eqb, leb, List, [], ◌∷◌, ◌++◌, Option, Some, None, Result, Ok, Err, length, get_or, take, drop, refl, sym, ap, subst, ◌∙◌, arith, ℤ, decimal, lit<, lit≤, unsigned_abs, IfOk, flat_map, All, eqb-true, leb-true, le-leb, length-append, take_at}
use Rattle.bid_strings.specs.Prelude.{BidFault, size_of, point_fault, first_fault, fault_of, Point, numeral, signed_numeral, words_of}
use Rattle.tac_base.proofs.Faults.{good_point, both_none}
use Rattle.std.specs.List.{join_with_byte, AllByRecursion}
use Rattle.std.proofs.lemmas.List.Elements.{All-from_recursion, recursion_from_All}
use Rattle.std.proofs.lemmas.Bool.Decides.{nat_tests}
use Rattle.std.proofs.lemmas.List.{take_more}
use Rattle.std.proofs.Math.Seq.{take-length, get_or-append_seam}
use Rattle.std.proofs.lemmas.Option.{same_Some}
use Rattle.std.proofs.lemmas.List.Concat.{flat_map-cons}
use Rattle.std.proofs.lemmas.List.Splits.{join_with_byte-slice_split, length-slice_split}
use Rattle.std.proofs.lemmas.Fmt.{length-decimal-le}
use Rattle.tac_base.proofs.NumeralLaws.{both_true, numeral_is, numeral_again, numeral_limit}
use Rattle.tac_base.proofs.Signed.{Lacks, signed_is, signed_again, signed_limit, decimal_lacks, signed_lacks}
use Rattle.text_forms.proofs.Joins.{joined_parts}
use Rattle.bid_strings.specs.BidForm.{front, last, paired, point_of, point_then, points_from, points_of, verdict, judged}
use Rattle.bid_strings.specs.Spelling.{point_words, spelling, HasFiveDigits, IsBidString}
use Rattle.bid_strings.proofs.PointWords.{left_word, right_word}

-- a list by its last item
nonempty : (bytes : List ℕ) → 0 < length bytes → bytes ≡ front bytes ++ last bytes ∷ []
nonempty bytes some =
    let k : length bytes - 1 + 1 ≡ length bytes = omega (arith, some) in
    sym (ap (λ (n : ℕ). take n bytes) k ∙ take-length bytes) ∙ take_more bytes (length bytes - 1) 0 (omega (arith, some))

last_some : (byte : ℕ) (bytes : List ℕ) → last bytes ≡ suc byte → 0 < length bytes
last_some byte [] h = absurd (let e : 0 ≡ suc byte = h in omega (arith, e))
last_some byte (b ∷ bytes) h = omega arith

-- a word that ends with a byte
ends_with : (byte : ℕ) (bytes : List ℕ) → last bytes ≡ suc byte → bytes ≡ front bytes ++ suc byte ∷ []
ends_with byte bytes h = nonempty bytes (last_some byte bytes h) ∙ ap (λ (b : ℕ). front bytes ++ b ∷ []) h

front_push : (bytes : List ℕ) (byte : ℕ) → front (bytes ++ byte ∷ []) ≡ bytes
front_push bytes byte =
    let n : length (bytes ++ byte ∷ []) - 1 ≡ length bytes = omega (arith, length-append bytes (byte ∷ [])) in
    ap (λ (k : ℕ). take k (bytes ++ byte ∷ [])) n ∙ take_at bytes (byte ∷ []) (length bytes) refl

last_push : (bytes : List ℕ) (byte : ℕ) → last (bytes ++ byte ∷ []) ≡ byte
last_push bytes byte =
    let n : length (bytes ++ byte ∷ []) - 1 ≡ length bytes = omega (arith, length-append bytes (byte ∷ [])) in
    ap (λ (k : ℕ). get_or (bytes ++ byte ∷ []) k 0) n ∙ get_or-append_seam bytes byte [] 0

chosen : {A : Type 0} (b : Bool) (o : Option A) (p : A) → cond b o None ≡ Some p → (b ≡ true) × (o ≡ Some p)
chosen true o p h = (refl, h)
chosen false o p h = absurd cc

-- the two numbers of a point
record Numbers (units : Option ℤ) (price : Option ℕ) (point : Point) : Type 0 where
  first : units ≡ Some point.units
  second : price ≡ Some point.price

pair_is : (units : Option ℤ) (price : Option ℕ) (point : Point) → paired units price ≡ Some point → Numbers units price point
pair_is None price point h = absurd cc
pair_is (Some units) None point h = absurd cc
pair_is (Some units) (Some price) point h =
    let e : record { units = units; price = price } ≡ point = same_Some _ point h in
    record { first = ap (λ (p : Point). Some p.units) e; second = ap (λ (p : Point). Some p.price) e }

-- ---- one point

-- what a point that was read has
record IsPoint (left right : List ℕ) (point : Point) : Type 0 where
  opens : left ≡ left_word point
  closes : right ≡ right_word point
  digits : HasFiveDigits point

point_is : (left right : List ℕ) (point : Point) → point_of left right ≡ Some point → IsPoint left right point
unfolding point_of
point_is [] right point h = absurd (let c = chosen (eqb 0 40 && eqb (last right) 41) (paired (signed_numeral 5 (drop 1 [])) (numeral 5 (front right))) point h in let b = both_true (eqb 0 40) (eqb (last right) 41) c.0 in cc)
point_is (b ∷ left) right point h =
    let c = chosen (eqb b 40 && eqb (last right) 41) (paired (signed_numeral 5 left) (numeral 5 (front right))) point h in
    let tests = both_true (eqb b 40) (eqb (last right) 41) c.0 in
    let numbers = pair_is (signed_numeral 5 left) (numeral 5 (front right)) point c.1 in
    let opened : b ≡ 40 = eqb-true _ _ tests.0 in
    let closed : right ≡ front right ++ 41 ∷ [] = ends_with 40 right (eqb-true _ _ tests.1) in
    let units = signed_is 5 left point.units (lit≤ tt) numbers.first in
    let small : point.price < 10 ^ 5 = numeral_limit 5 5 (front right) point.price (lit≤ tt) numbers.second in
    let price = numeral_is 5 (front right) point.price numbers.second (omega (arith, small)) in
    record {
      opens = ap (λ (x : ℕ). x ∷ left) opened ∙ ap (λ (bytes : List ℕ). 40 ∷ bytes) units;
      closes = closed ∙ ap (λ (bytes : List ℕ). bytes ++ 41 ∷ []) price.0;
      digits = record { units = signed_limit 5 5 left point.units (lit≤ tt) numbers.first; price = small };
    }

point_again : (point : Point) → HasFiveDigits point → point_of (left_word point) (right_word point) ≡ Some point
unfolding point_of
point_again point digits =
    let small = digits.units in
    let cheap = digits.price in
    let units = signed_again 5 point.units (omega (arith, small)) (length-decimal-le 5 (unsigned_abs point.units) (lit< tt) small (omega (arith, small))) in
    let price = numeral_again 5 point.price (omega (arith, cheap)) (length-decimal-le 5 point.price (lit< tt) cheap (omega (arith, cheap))) in
    rw (last_push (decimal point.price) 41, front_push (decimal point.price) 41, units, price) refl

-- ---- all points

followed_is : (point : Option Point) (others : Option (List Point)) (points : List Point) → point_then point others ≡ Some points → (p : Point) × (ps : List Point) × (point ≡ Some p) × (others ≡ Some ps) × (points ≡ p ∷ ps)
followed_is None others points h = absurd cc
followed_is (Some p) None points h = absurd cc
followed_is (Some p) (Some ps) points h = (p, ps, refl, refl, sym (same_Some (p ∷ ps) points h))

points_are : (words : List (List ℕ)) (points : List Point) → points_from words ≡ Some points → words ≡ flat_map point_words points
points_are [] points h = ap (flat_map point_words) (same_Some [] points h)
points_are (left ∷ []) points h = absurd cc
points_are (left ∷ right ∷ words) points h =
    let f = followed_is (point_of left right) (points_from words) points h in
    let p = f.0 in
    let ps = f.1 in
    let one = point_is left right p f.2 in
    let more = points_are words ps f.3 in
    ap (λ (l : List ℕ). l ∷ right ∷ words) one.opens ∙ ap (λ (r : List ℕ). left_word p ∷ r ∷ words) one.closes ∙ ap (λ (ws : List (List ℕ)). left_word p ∷ right_word p ∷ ws) more ∙ sym (ap (flat_map point_words) f.4 ∙ flat_map-cons point_words p ps)

points_short : (words : List (List ℕ)) (points : List Point) → points_from words ≡ Some points → AllByRecursion HasFiveDigits points
points_short [] points h = subst (λ (ps : List Point). AllByRecursion HasFiveDigits ps) (same_Some [] points h) tt
points_short (left ∷ []) points h = absurd cc
points_short (left ∷ right ∷ words) points h =
    let f = followed_is (point_of left right) (points_from words) points h in
    subst (λ (ps : List Point). AllByRecursion HasFiveDigits ps) (sym f.4) ((point_is left right f.0 f.2).digits, points_short words f.1 f.3)

-- a line has a word, so its points are no empty list
points_some : (line : List ℕ) (points : List Point) → words_of line ≡ flat_map point_words points → 0 < length points
points_some line [] e = absurd (let one : length (words_of line) ≡ 0 = ap length e in omega (arith, one, length-slice_split (λ b. eqb b 32) line))
points_some line (point ∷ points) e = omega arith

points_again : (points : List Point) → AllByRecursion HasFiveDigits points → points_from (flat_map point_words points) ≡ Some points
points_again [] h = refl
points_again (point ∷ points) h =
    ap points_from (flat_map-cons point_words point points) ∙ rw (point_again point h.0, points_again points h.1) refl

-- ---- a whole text

-- a text of the form is the spelling of its points
pub text_is : (text : List ℕ) (points : List Point) → points_of text ≡ Some points → IsBidString text points
unfolding points_of
text_is [] points h = absurd (let c = chosen (leb 2 0 && (eqb 0 40 && eqb (last []) 41)) (points_from (words_of (take (0 - 2) (drop 1 [])))) points h in let b = both_true (leb 2 0) (eqb 0 40 && eqb (last []) 41) c.0 in cc)
text_is (b ∷ bytes) points h =
    let inner = take (length (b ∷ bytes) - 2) (drop 1 (b ∷ bytes)) in
    let c = chosen (leb 2 (length (b ∷ bytes)) && (eqb b 40 && eqb (last (b ∷ bytes)) 41)) (points_from (words_of inner)) points h in
    let tests = both_true (leb 2 (length (b ∷ bytes))) (eqb b 40 && eqb (last (b ∷ bytes)) 41) c.0 in
    let ends = both_true (eqb b 40) (eqb (last (b ∷ bytes)) 41) tests.1 in
    let long : 2 ≤ length (b ∷ bytes) = leb-true _ _ tests.0 in
    let opened : b ≡ 40 = eqb-true _ _ ends.0 in
    let closed : b ∷ bytes ≡ front (b ∷ bytes) ++ 41 ∷ [] = ends_with 40 (b ∷ bytes) (eqb-true _ _ ends.1) in
    let k : length (b ∷ bytes) - 1 ≡ suc (length bytes - 1) = omega (arith, long) in
    let middle : front (b ∷ bytes) ≡ b ∷ take (length bytes - 1) bytes = ap (λ (n : ℕ). take n (b ∷ bytes)) k in
    let j : length (b ∷ bytes) - 2 ≡ length bytes - 1 = omega (arith, long) in
    let same : inner ≡ take (length bytes - 1) bytes = ap (λ (n : ℕ). take n bytes) j in
    let words : words_of inner ≡ flat_map point_words points = points_are (words_of inner) points c.1 in
    let joined : inner ≡ join_with_byte 32 (flat_map point_words points) = sym (join_with_byte-slice_split 32 inner) ∙ ap (join_with_byte 32) words in
    record {
      some = points_some inner points words;
      digits = All-from_recursion HasFiveDigits points (points_short (words_of inner) points c.1);
      spelled = closed ∙ ap (λ (f : List ℕ). f ++ 41 ∷ []) (middle ∙ ap (λ (t : List ℕ). b ∷ t) (sym same ∙ joined)) ∙ ap (λ (x : ℕ). x ∷ (join_with_byte 32 (flat_map point_words points) ++ 41 ∷ [])) opened;
    }

lacks_append : (byte : ℕ) (xs ys : List ℕ) → Lacks byte xs → Lacks byte ys → Lacks byte (xs ++ ys)
lacks_append byte [] ys h k = k
lacks_append byte (x ∷ xs) ys h k = (h.0, lacks_append byte xs ys h.1 k)

-- no word of a point has a byte below `(`
left_lacks : (byte : ℕ) → byte < 40 → (point : Point) → HasFiveDigits point → Lacks byte (left_word point)
left_lacks byte lt point digits = let small = digits.units in (grind (arith, nat_tests, lt), signed_lacks byte point.units (omega (arith, lt)) (omega (arith, small)))

right_lacks : (byte : ℕ) → byte < 40 → (point : Point) → HasFiveDigits point → Lacks byte (right_word point)
right_lacks byte lt point digits = let small = digits.price in lacks_append byte (decimal point.price) (41 ∷ []) (decimal_lacks byte point.price (omega (arith, lt)) (omega (arith, small))) (grind (arith, nat_tests, lt), tt)

pub points_lack : (byte : ℕ) → byte < 40 → (points : List Point) → AllByRecursion HasFiveDigits points → AllByRecursion (Lacks byte) (flat_map point_words points)
points_lack byte lt [] h = tt
points_lack byte lt (point ∷ points) h = subst (λ (ws : List (List ℕ)). AllByRecursion (Lacks byte) ws) (sym (flat_map-cons point_words point points)) (left_lacks byte lt point h.0, (right_lacks byte lt point h.0, points_lack byte lt points h.1))

words_again : (point : Point) (points : List Point) → AllByRecursion HasFiveDigits (point ∷ points) → words_of (join_with_byte 32 (flat_map point_words (point ∷ points))) ≡ flat_map point_words (point ∷ points)
words_again point points h =
    let made = flat_map-cons point_words point points in
    ap (λ (ws : List (List ℕ)). words_of (join_with_byte 32 ws)) made ∙ joined_parts 32 (left_word point) (right_word point ∷ flat_map point_words points) (left_lacks 32 (lit< tt) point h.0) (right_lacks 32 (lit< tt) point h.0, points_lack 32 (lit< tt) points h.1) ∙ sym made

text_again : (point : Point) (points : List Point) → AllByRecursion HasFiveDigits (point ∷ points) → points_of (spelling (point ∷ points)) ≡ Some (point ∷ points)
unfolding points_of
text_again point points h =
    let all = flat_map point_words (point ∷ points) in
    let joined = join_with_byte 32 all in
    let long : leb 2 (length (40 ∷ (joined ++ 41 ∷ []))) ≡ true = le-leb _ _ (omega (arith, length-append joined (41 ∷ []))) in
    let closed : last (40 ∷ (joined ++ 41 ∷ [])) ≡ 41 = last_push (40 ∷ joined) 41 in
    let n : length joined ≡ length (40 ∷ (joined ++ 41 ∷ [])) - 2 = omega (arith, length-append joined (41 ∷ [])) in
    let inner : take (length (40 ∷ (joined ++ 41 ∷ [])) - 2) (joined ++ 41 ∷ []) ≡ joined = take_at joined (41 ∷ []) _ n in
    rw (long, closed, inner, words_again point points h, points_again (point ∷ points) h) refl

again_by : (text : List ℕ) (points : List Point) → 0 < length points → All HasFiveDigits points → text ≡ spelling points → points_of text ≡ Some points
again_by text [] some digits e = absurd (omega (arith, some))
again_by text (point ∷ points) some digits e = ap points_of e ∙ text_again point points (recursion_from_All HasFiveDigits (point ∷ points) digits)

-- the spelling of points is a text of their form
pub is_text : (text : List ℕ) (points : List Point) → IsBidString text points → points_of text ≡ Some points
is_text text points is = again_by text points is.some is.digits is.spelled

-- ---- the numbers of a bid

lawful_point : (count used : ℕ) (point : Point) → point_fault count used point ≡ None → HasFiveDigits point
lawful_point count used point h =
    let good = good_point count used point h in
    record { units = omega (arith, good.small); price = omega (arith, good.cheap) }

pub lawful_points : (count used : ℕ) (points : List Point) → first_fault count used points ≡ None → AllByRecursion HasFiveDigits points
lawful_points count used [] h = tt
lawful_points count used (point ∷ points) h =
    let parts = both_none (point_fault count used point) (first_fault (count + 1) (used + size_of point) points) h in
    (lawful_point count used point parts.0, lawful_points (count + 1) (used + size_of point) points parts.1)

-- what is printed of a bid is read as that bid
pub bid_again : (points : List Point) → fault_of points ≡ None → judged (points_of (spelling points)) ≡ Ok points
bid_again [] h = absurd cc
bid_again (point ∷ points) h = ap judged (text_again point points (lawful_points 0 0 (point ∷ points) h)) ∙ ap (verdict (point ∷ points)) h

-- what is read was spelled so
verdict_ok : (points others : List Point) (fault : Option BidFault) → verdict points fault ≡ Ok others → points ≡ others
verdict_ok points others None h = cc
verdict_ok points others (Some fault) h = absurd cc

judged_is : (text : List ℕ) (read : Option (List Point)) (points : List Point) → points_of text ≡ read → judged read ≡ Ok points → text ≡ spelling points
judged_is text None points e h = absurd cc
judged_is text (Some read) points e h = (text_is text read e).spelled ∙ ap spelling (verdict_ok read points (fault_of read) h)

pub bid_is : (text : List ℕ) (points : List Point) → judged (points_of text) ≡ Ok points → text ≡ spelling points
bid_is text points h = judged_is text (points_of text) points refl h

pub spelled_if : (text : List ℕ) (r : Result (List Point) BidFault) → r ≡ judged (points_of text) → IfOk r (λ points. text ≡ spelling points)
spelled_if text (Ok points) h = bid_is text points (sym h)
spelled_if text (Err fault) h = tt
