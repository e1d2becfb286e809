-- The plain object of a request is read as that request.
use Rattle.std.proofs.Common.{◌≡◌, ℕ, suc, ◌^◌, ◌<◌, ◌≤◌, Bool, true, false, ◌&&◌, List, [], ◌∷◌, ◌++◌, Option, Some, None, Ok, refl, sym, ap, ◌∙◌, append-nil, arith, ℤ, pos, negsuc, decimal, lit≤, lt-ltb, le-leb, ltb, leb, IsUtf8, codes, unsigned_abs, option_and_then, le-ltb, leb-true}
use Rattle.std.specs.Prelude.{⊤}
use Rattle.std.specs.Fmt.{signed_decimal}
use Rattle.std.specs.List.{AllByRecursion}
use Rattle.std.specs.Str.{is_utf8, all_ascii_digits}
use Rattle.std.proofs.lemmas.Str.{is_utf8-from_IsUtf8, IsUtf8-append}
use Rattle.json.specs.Token.{Token}
use Rattle.json.specs.Json as json
use Rattle.json.specs.Print.{print, print_from, token_text, ends, IsNumber}
use Rattle.json.specs.Tree.{json_tokens, items_tokens, depth, items_depth, HasNumbers, ItemsHaveNumbers}
use Rattle.json.proofs.Printed.Decimals.{IsNumber-decimal, IsNumber-signed_decimal}
use Rattle.json.proofs.Printed.Tokens.{tokens-print}
use Rattle.json.proofs.Printed.Trees.{value-json_tokens, ArePrintable-json_tokens}
use Rattle.json.proofs.Printed.Utf8.{IsUtf8-are_ascii, IsUtf8-separator}
use Rattle.serde_json.specs.Data.{Data, Num, unsigned, negative, number, string, array, object, Items, no_items, item, Members, no_members, member}
use Rattle.serde_json.specs.Read.{of_json, of_items, number_of, read}
use Rattle.serde_json.proofs.Numbers.{number_of-decimal, number_of-negative}
use Rattle.serde_json.proofs.OnLiterals.{serde_json_on_literals}
use Rattle.json_dialect.specs.Prelude.{Point, fault_of, HasFiveDigits, verdict, judged, Request, read_good, IsRequest}
use Rattle.tac_base.proofs.NumeralLaws.{both_true, decimal_digits}
use Rattle.bid_strings.proofs.Laws.{lawful_points}
use Rattle.line_protocol.specs.declared.asking.Request.TheVariants.{Bid, Withdraw, Own, Quote, Cash, Quit}
use Rattle.json_dialect.specs.JsonRequests as asked
use Rattle.json_dialect.specs.JsonRequests.{asks_json, asked_by_value}
use Rattle.json_dialect.specs.JsonObjects.{point_items, object_of, object_text}

-- ---- the text of a value is read as that value

read_plain : (j : json.Json) (d : Data) → HasNumbers j → depth j ≤ 127 → of_json j ≡ Some d → read (print (json_tokens j)) ≡ Some d
read_plain j d numbers shallow is =
    ap (λ (r : Option (json.Json × List Token)). option_and_then of_json (option_and_then (λ p. json.if_last p.0 p.1) r))
    (ap (json.value 127) (tokens-print (json_tokens j) (ArePrintable-json_tokens j numbers) ∙ sym (append-nil (json_tokens j))) ∙ value-json_tokens j 127 [] shallow)
    ∙ is

-- ---- numbers

abbrev unit_of : ℤ → Num
unit_of (pos n) = unsigned n
unit_of (negsuc n) = negative (negsuc n)

units_read : (z : ℤ) → unsigned_abs z < 100000 → number_of (signed_decimal z) ≡ Some (unit_of z)
units_read (pos n) small = number_of-decimal n (omega (arith, small))
units_read (negsuc n) small = number_of-negative n (omega (arith, small))

units_number : (z : ℤ) → unsigned_abs z < 100000 → IsNumber (signed_decimal z)
units_number (pos n) small = IsNumber-decimal n (omega (arith, small))
units_number (negsuc n) small = IsNumber-signed_decimal (negsuc n) (omega (arith, small))

whole_again : (n : ℕ) → n < 100000 → asked.json_number (number (unsigned n)) ≡ Some n
whole_again n small =
    let long : ltb n (2 ^ 63) ≡ true = lt-ltb _ _ (omega (arith, small)) in
    let few : leb n 99999 ≡ true = le-leb _ _ (omega (arith, small)) in
    rw (long, few) refl

units_again : (z : ℤ) → unsigned_abs z < 100000 → asked.signed_number_of (number (unit_of z)) ≡ Some z
units_again (pos n) small =
    let long : ltb n (2 ^ 63) ≡ true = lt-ltb _ _ (omega (arith, small)) in
    let few : leb n 99999 ≡ true = le-leb _ _ (omega (arith, small)) in
    rw (long, few) refl
units_again (negsuc n) small =
    let few : leb (suc n) 99999 ≡ true = le-leb _ _ (omega (arith, small)) in
    rw few refl

-- ---- points

abbrev point_data : Point → Data
point_data point = array (item (number (unit_of point.units)) (item (number (unsigned point.price)) no_items))

abbrev points_data : List Point → Items
points_data [] = no_items
points_data (point ∷ points) = item (point_data point) (points_data points)

points_read : (points : List Point) → AllByRecursion HasFiveDigits points → of_items (point_items points) ≡ Some (points_data points)
points_read [] h = refl
points_read (point ∷ points) h =
    let digits = h.0 in
    let units = digits.units in
    let price = digits.price in
    let small : point.price < 2 ^ 64 = omega (arith, price) in
    rw (units_read point.units units, number_of-decimal point.price small, points_read points h.1) refl

points_numbers : (points : List Point) → AllByRecursion HasFiveDigits points → ItemsHaveNumbers (point_items points)
points_numbers [] h = tt
points_numbers (point ∷ points) h =
    let digits = h.0 in
    let price = digits.price in
    ((units_number point.units digits.units, (IsNumber-decimal point.price (omega (arith, price)), tt)), points_numbers points h.1)

point_again : (point : Point) → HasFiveDigits point → asked.json_point (point_data point) ≡ Some point
point_again point digits = rw (units_again point.units digits.units, whole_again point.price digits.price) refl

points_again : (points : List Point) → AllByRecursion HasFiveDigits points → asked.json_points_from (points_data points) ≡ Some points
points_again [] h = refl
points_again (point ∷ points) h = rw (point_again point h.0, points_again points h.1) refl

shallow_points : (points : List Point) → items_depth (point_items points) ≤ 1
shallow_points [] = omega arith
shallow_points (point ∷ points) = let others = shallow_points points in omega (arith, others)

-- ---- the bytes are UTF-8

abbrev are_plain : List Token → Type 0
are_plain [] = ⊤
are_plain (t ∷ ts) = IsUtf8 (token_text t) × are_plain ts

plain_text : (after : Bool) (ts : List Token) → are_plain ts → IsUtf8 (print_from after ts)
unfolding print_from
plain_text after [] h = IsUtf8-are_ascii [] refl
plain_text after (t ∷ ts) h = IsUtf8-append _ _ (IsUtf8-separator after t) (IsUtf8-append _ _ h.0 (plain_text (ends t) ts h.1))

plain_append : (ts us : List Token) → are_plain ts → are_plain us → are_plain (ts ++ us)
plain_append [] us h k = k
plain_append (t ∷ ts) us h k = (h.0, plain_append ts us h.1 k)

digits_plain : (word : List ℕ) → all_ascii_digits word ≡ true → IsUtf8 word
digits_plain [] h = IsUtf8-are_ascii [] refl
digits_plain (byte ∷ word) h =
    let both = both_true (leb 48 byte && leb byte 57) (all_ascii_digits word) h in
    let high = (both_true (leb 48 byte) (leb byte 57) both.0).1 in
    let low : ltb byte 128 ≡ true = lt-ltb _ _ (let le = leb-true _ _ high in omega (arith, le)) in
    IsUtf8-append (byte ∷ []) word (IsUtf8-are_ascii (byte ∷ []) (rw low refl)) (digits_plain word both.1)

number_plain : (n : ℕ) → n < 2 ^ 64 → IsUtf8 (decimal n)
number_plain n small = digits_plain (decimal n) (decimal_digits n small)

units_plain : (z : ℤ) → unsigned_abs z < 100000 → IsUtf8 (signed_decimal z)
units_plain (pos n) small = number_plain n (omega (arith, small))
units_plain (negsuc n) small = IsUtf8-append (codes "-") (decimal (suc n)) (IsUtf8-are_ascii (codes "-") refl) (number_plain (suc n) (omega (arith, small)))

bracket : (byte : ℕ) → ltb byte 128 ≡ true → IsUtf8 (byte ∷ [])
bracket byte h = IsUtf8-are_ascii (byte ∷ []) (rw h refl)

points_plain : (points : List Point) → AllByRecursion HasFiveDigits points → are_plain (items_tokens (point_items points))
points_plain [] h = (bracket 93 refl, tt)
points_plain (point ∷ points) h =
    let digits = h.0 in
    let price = digits.price in
    (bracket 91 refl, (units_plain point.units digits.units, (number_plain point.price (omega (arith, price)), (bracket 93 refl, points_plain points h.1))))

-- ---- requests

abbrev goods_data : ℕ → Members → Members
goods_data good members = member (codes "auction") (number (unsigned good)) members

-- an object's members in the order in which they are kept
abbrev data_of : Request → Data
data_of (Bid good points) = object (goods_data good (member (codes "do") (string (codes "bid")) (member (codes "points") (array (points_data points)) no_members)))
data_of (Withdraw good) = object (goods_data good (member (codes "do") (string (codes "withdraw")) no_members))
data_of (Own good) = object (goods_data good (member (codes "do") (string (codes "own")) no_members))
data_of (Quote good) = object (goods_data good (member (codes "do") (string (codes "quote")) no_members))
data_of Cash = object (member (codes "do") (string (codes "cash")) no_members)
data_of Quit = object (member (codes "do") (string (codes "quit")) no_members)

bid_points : (points : List Point) → fault_of points ≡ None → AllByRecursion HasFiveDigits points
bid_points [] h = tt
bid_points (point ∷ points) h = lawful_points 0 0 (point ∷ points) h

good_small : (good : ℕ) → good ≤ 27 → good < 2 ^ 64
good_small good le = omega (arith, le)

is_read : (request : Request) → IsRequest request → of_json (object_of request) ≡ Some (data_of request)
unfolding serde_json_on_literals
is_read (Bid good points) range = rw (number_of-decimal good (good_small good range.0), points_read points (bid_points points range.1)) refl
is_read (Withdraw good) range = rw (number_of-decimal good (good_small good range)) refl
is_read (Own good) range = rw (number_of-decimal good (good_small good range)) refl
is_read (Quote good) range = rw (number_of-decimal good (good_small good range)) refl
is_read Cash range = refl
is_read Quit range = refl

has_numbers : (request : Request) → IsRequest request → HasNumbers (object_of request)
has_numbers (Bid good points) range = (tt, (IsNumber-decimal good (good_small good range.0), (points_numbers points (bid_points points range.1), tt)))
has_numbers (Withdraw good) range = (tt, (IsNumber-decimal good (good_small good range), tt))
has_numbers (Own good) range = (tt, (IsNumber-decimal good (good_small good range), tt))
has_numbers (Quote good) range = (tt, (IsNumber-decimal good (good_small good range), tt))
has_numbers Cash range = (tt, tt)
has_numbers Quit range = (tt, tt)

shallow : (request : Request) → depth (object_of request) ≤ 127
shallow (Bid good points) = let few = shallow_points points in omega (arith, few)
shallow (Withdraw good) = lit≤ tt
shallow (Own good) = lit≤ tt
shallow (Quote good) = lit≤ tt
shallow Cash = lit≤ tt
shallow Quit = lit≤ tt

plain_words : (word : List ℕ) → IsUtf8 (token_text (Token.string word)) → (ts : List Token) → are_plain ts → are_plain (Token.begin_object ∷ Token.key (codes "do") ∷ Token.string word ∷ ts)
unfolding serde_json_on_literals
plain_words word is ts h = (bracket 123 refl, (IsUtf8-are_ascii (codes "\"do\":") refl, (is, h)))

abbrev end_tokens : List Token
end_tokens = Token.end_object ∷ []

abbrev good_tokens : ℕ → List Token → List Token
good_tokens good ts = Token.key (codes "auction") ∷ Token.number (decimal good) ∷ ts

abbrev points_tokens : List Point → List Token
points_tokens points = Token.key (codes "points") ∷ Token.begin_array ∷ (items_tokens (point_items points) ++ end_tokens)

plain_good : (good : ℕ) → good ≤ 27 → (ts : List Token) → are_plain ts → are_plain (good_tokens good ts)
unfolding serde_json_on_literals
plain_good good le ts h = (IsUtf8-are_ascii (codes "\"auction\":") refl, (number_plain good (good_small good le), h))

plain_end : are_plain end_tokens
plain_end = (bracket 125 refl, tt)

plain_points : (points : List Point) → AllByRecursion HasFiveDigits points → are_plain (points_tokens points)
unfolding serde_json_on_literals
plain_points points h = (IsUtf8-are_ascii (codes "\"points\":") refl, (bracket 91 refl, plain_append (items_tokens (point_items points)) end_tokens (points_plain points h) plain_end))

is_plain : (request : Request) → IsRequest request → are_plain (json_tokens (object_of request))
unfolding serde_json_on_literals
is_plain (Bid good points) range = plain_words (codes "bid") (IsUtf8-are_ascii (codes "\"bid\"") refl) (good_tokens good (points_tokens points)) (plain_good good range.0 (points_tokens points) (plain_points points (bid_points points range.1)))
is_plain (Withdraw good) range = plain_words (codes "withdraw") (IsUtf8-are_ascii (codes "\"withdraw\"") refl) (good_tokens good end_tokens) (plain_good good range end_tokens plain_end)
is_plain (Own good) range = plain_words (codes "own") (IsUtf8-are_ascii (codes "\"own\"") refl) (good_tokens good end_tokens) (plain_good good range end_tokens plain_end)
is_plain (Quote good) range = plain_words (codes "quote") (IsUtf8-are_ascii (codes "\"quote\"") refl) (good_tokens good end_tokens) (plain_good good range end_tokens plain_end)
is_plain Cash range = plain_words (codes "cash") (IsUtf8-are_ascii (codes "\"cash\"") refl) end_tokens plain_end
is_plain Quit range = plain_words (codes "quit") (IsUtf8-are_ascii (codes "\"quit\"") refl) end_tokens plain_end

good_again : (good : ℕ) → good ≤ 27 → read_good (asked.json_number (number (unsigned good))) ≡ Ok good
good_again good le =
    let in_range : ltb 27 good ≡ false = le-ltb _ _ le in
    ap read_good (whole_again good (omega (arith, le))) ∙ rw in_range refl

bid_again : (points : List Point) → fault_of points ≡ None → judged (asked.json_points (array (points_data points))) ≡ Ok points
bid_again points h = ap judged (points_again points (bid_points points h)) ∙ ap (verdict points) h

is_asked : (request : Request) → IsRequest request → asked_by_value (Some (data_of request)) ≡ Ok request
unfolding serde_json_on_literals
is_asked (Bid good points) range = rw (good_again good range.0, bid_again points range.1) refl
is_asked (Withdraw good) range = rw (good_again good range) refl
is_asked (Own good) range = rw (good_again good range) refl
is_asked (Quote good) range = rw (good_again good range) refl
is_asked Cash range = refl
is_asked Quit range = refl

pub plain_object : (request : Request) → IsRequest request → asks_json (object_text request) ≡ Ok request
unfolding asks_json
plain_object request range =
    let bytes : is_utf8 (object_text request) ≡ true = is_utf8-from_IsUtf8 (object_text request) (plain_text false (json_tokens (object_of request)) (is_plain request range)) in
    let value : read (object_text request) ≡ Some (data_of request) = read_plain (object_of request) (data_of request) (has_numbers request range) (shallow request) (is_read request range) in
    rw (bytes, value) (is_asked request range)
