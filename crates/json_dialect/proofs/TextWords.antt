-- The words of a text of JSON: its runs of letters, digits and `-`.
use Rattle.std.proofs.Common.{◌≡◌, ℕ, suc, ◌^◌, ◌<◌, Bool, true, false, ◌&&◌, ◌||◌, eqb, leb, List, [], ◌∷◌, ◌++◌, length, refl, ap, ◌∙◌, append_assoc, append-nil, arith, ℤ, pos, negsuc, decimal, map, codes, unsigned_abs}
use Rattle.std.specs.Fmt.{signed_decimal}
use Rattle.std.specs.List.{AllByRecursion, concat, list_all, onto_first, join_with_byte}
use Rattle.std.specs.Str.{all_ascii_digits}
use Rattle.std.proofs.lemmas.Fmt.{decimal_nonempty}
use Rattle.json_dialect.specs.Prelude.{Point, HasFiveDigits}
use Rattle.tac_base.proofs.NumeralLaws.{both_true, decimal_digits}
use Rattle.json_dialect.specs.JsonReplies.{pair_text, json_point_text, points_text, placed, own_members, below_members, cash_members}

-- letters, digits and the sign
abbrev pub is_part : ℕ → Bool
is_part byte = eqb byte 45 || ((leb 48 byte && leb byte 57) || (leb 97 byte && leb byte 122))

-- a byte before words, and whether the next byte goes on with its word
abbrev pub grown : Bool → Bool → ℕ → List (List ℕ) → List (List ℕ)
grown false next byte words = words
grown true false byte words = (byte ∷ []) ∷ words
grown true true byte words = onto_first byte words

abbrev pub words_in : List ℕ → List (List ℕ)
words_in [] = []
words_in (byte ∷ []) = grown (is_part byte) false byte []
words_in (byte ∷ next ∷ bytes) = grown (is_part byte) (is_part next) byte (words_in (next ∷ bytes))

-- a byte between words
pub gap : (byte : ℕ) (bytes : List ℕ) → is_part byte ≡ false → words_in (byte ∷ bytes) ≡ words_in bytes
gap byte [] h = ap (λ (b : Bool). grown b false byte []) h
gap byte (next ∷ bytes) h = ap (λ (b : Bool). grown b (is_part next) byte (words_in (next ∷ bytes))) h

grown_last : (a b : Bool) (byte : ℕ) (words : List (List ℕ)) → a ≡ true → b ≡ false → grown a b byte words ≡ (byte ∷ []) ∷ words
grown_last a b byte words ha hb = rw (ha, hb) refl

grown_more : (a b : Bool) (byte : ℕ) (words : List (List ℕ)) → a ≡ true → b ≡ true → grown a b byte words ≡ onto_first byte words
grown_more a b byte words ha hb = rw (ha, hb) refl

-- a word that ends before such a byte
word_before : (first : ℕ) (word : List ℕ) (end : ℕ) (bytes : List ℕ) → list_all is_part (first ∷ word) ≡ true → is_part end ≡ false → words_in ((first ∷ word) ++ end ∷ bytes) ≡ (first ∷ word) ∷ words_in (end ∷ bytes)
word_before first [] end bytes h e = grown_last (is_part first) (is_part end) first (words_in (end ∷ bytes)) (both_true (is_part first) (list_all is_part []) h).0 e
word_before first (second ∷ word) end bytes h e =
    let both = both_true (is_part first) (list_all is_part (second ∷ word)) h in
    let next = both_true (is_part second) (list_all is_part word) both.1 in
    grown_more (is_part first) (is_part second) first (words_in ((second ∷ word) ++ end ∷ bytes)) both.0 next.0 ∙ ap (onto_first first) (word_before second word end bytes both.1 e)

-- a word of such bytes alone
pub record IsWord (word : List ℕ) : Type 0 where
  pub some : 0 < length word
  pub parts : list_all is_part word ≡ true

word_ends : (word : List ℕ) (end : ℕ) (bytes : List ℕ) → IsWord word → is_part end ≡ false → words_in (word ++ end ∷ bytes) ≡ word ∷ words_in (end ∷ bytes)
word_ends [] end bytes h e = let some = h.some in absurd (omega (arith, some))
word_ends (first ∷ word) end bytes h e = word_before first word end bytes h.parts e

-- a word between two such bytes
pub word_after : (byte : ℕ) (word : List ℕ) (end : ℕ) (bytes : List ℕ) → is_part byte ≡ false → IsWord word → is_part end ≡ false → words_in (byte ∷ (word ++ end ∷ bytes)) ≡ word ∷ words_in (end ∷ bytes)
word_after byte word end bytes b h e = gap byte (word ++ end ∷ bytes) b ∙ word_ends word end bytes h e

-- ---- numbers are words

digit_part : (byte : ℕ) → (leb 48 byte && leb byte 57) ≡ true → is_part byte ≡ true
digit_part byte h = either (eqb byte 45) (leb 97 byte && leb byte 122) (leb 48 byte && leb byte 57) h
  where
    either : (a c b : Bool) → b ≡ true → (a || (b || c)) ≡ true
    either true c b h = refl
    either false c b h = rw h refl

digits_parts : (word : List ℕ) → all_ascii_digits word ≡ true → list_all is_part word ≡ true
digits_parts [] h = refl
digits_parts (byte ∷ word) h =
    let both = both_true (leb 48 byte && leb byte 57) (all_ascii_digits word) h in
    rw (digit_part byte both.0, digits_parts word both.1) refl

pub number_word : (n : ℕ) → n < 2 ^ 64 → IsWord (decimal n)
number_word n small = record { some = decimal_nonempty n small; parts = digits_parts (decimal n) (decimal_digits n small) }

pub signed_word : (z : ℤ) → unsigned_abs z < 2 ^ 64 → IsWord (signed_decimal z)
signed_word (pos n) small = number_word n small
signed_word (negsuc n) small = record { some = omega arith; parts = digits_parts (decimal (suc n)) (decimal_digits (suc n) small) }

-- ---- pairs and points

pub pair_words : (first second : List ℕ) (end : ℕ) (bytes : List ℕ) → IsWord first → IsWord second → words_in (pair_text first second ++ end ∷ bytes) ≡ first ∷ second ∷ words_in (end ∷ bytes)
pair_words first second end bytes f s =
    ap (λ (t : List ℕ). words_in (91 ∷ t)) (append_assoc first (44 ∷ (second ++ 93 ∷ [])) (end ∷ bytes))
    ∙ word_after 91 first 44 ((second ++ 93 ∷ []) ++ end ∷ bytes) refl f refl
    ∙ ap (λ (t : List ℕ). first ∷ words_in (44 ∷ t)) (append_assoc second (93 ∷ []) (end ∷ bytes))
    ∙ ap (λ (ws : List (List ℕ)). first ∷ ws) (word_after 44 second 93 (end ∷ bytes) refl s refl)

-- the words of points before others
abbrev pub point_words : List Point → List (List ℕ) → List (List ℕ)
point_words [] others = others
point_words (point ∷ points) others = signed_decimal point.units ∷ decimal point.price ∷ point_words points others

unit_word : (point : Point) → HasFiveDigits point → IsWord (signed_decimal point.units)
unit_word point digits = let units = digits.units in signed_word point.units (omega (arith, units))

price_word : (point : Point) → HasFiveDigits point → IsWord (decimal point.price)
price_word point digits = let price = digits.price in number_word point.price (omega (arith, price))

pub points_words : (byte : ℕ) (points : List Point) (end : ℕ) (bytes : List ℕ) → is_part byte ≡ false → AllByRecursion HasFiveDigits points → is_part end ≡ false
    → words_in (byte ∷ (join_with_byte 44 (map json_point_text points) ++ end ∷ bytes)) ≡ point_words points (words_in (end ∷ bytes))
points_words byte [] end bytes b h e = gap byte (end ∷ bytes) b
points_words byte (point ∷ []) end bytes b h e =
    gap byte (json_point_text point ++ end ∷ bytes) b ∙ pair_words (signed_decimal point.units) (decimal point.price) end bytes (unit_word point h.0) (price_word point h.0)
points_words byte (point ∷ next ∷ points) end bytes b h e =
    let others = join_with_byte 44 (map json_point_text (next ∷ points)) in
    ap (λ (t : List ℕ). words_in (byte ∷ t)) (append_assoc (json_point_text point) (44 ∷ others) (end ∷ bytes))
    ∙ gap byte (json_point_text point ++ 44 ∷ (others ++ end ∷ bytes)) b
    ∙ pair_words (signed_decimal point.units) (decimal point.price) 44 (others ++ end ∷ bytes) (unit_word point h.0) (price_word point h.0)
    ∙ ap (λ (ws : List (List ℕ)). signed_decimal point.units ∷ decimal point.price ∷ ws) (points_words 44 (next ∷ points) end bytes refl h.1 e)

-- ---- the members of an object with a position

pub placed_words : (position : ℕ) (members : List ℕ) → position < 2 ^ 64 → words_in (placed position members) ≡ codes "at" ∷ decimal position ∷ words_in (44 ∷ (members ++ codes "}"))
placed_words position members small =
    ap (λ (t : List ℕ). words_in (codes "{\"at\":" ++ t)) (append_assoc (decimal position) (codes ",") (members ++ codes "}"))
    ∙ ap (λ (ws : List (List ℕ)). codes "at" ∷ ws) (word_after 58 (decimal position) 44 (members ++ codes "}") refl (number_word position small) refl)

pub cash_words : (dollars : ℤ) → unsigned_abs dollars < 2 ^ 64 → words_in (44 ∷ (cash_members dollars ++ codes "}")) ≡ codes "cash" ∷ signed_decimal dollars ∷ []
cash_words dollars small = ap (λ (ws : List (List ℕ)). codes "cash" ∷ ws) (word_after 58 (signed_decimal dollars) 125 [] refl (signed_word dollars small) refl)

pub own_words : (holding : ℤ) (left : List Point) → unsigned_abs holding < 2 ^ 64 → AllByRecursion HasFiveDigits left
    → words_in (44 ∷ (own_members holding left ++ codes "}")) ≡ codes "own" ∷ signed_decimal holding ∷ codes "points" ∷ point_words left []
own_words holding left small digits =
    let points = join_with_byte 44 (map json_point_text left) in
    let closed : ((points ++ codes "]") ++ []) ++ codes "}" ≡ points ++ codes "]}" = ap (λ (t : List ℕ). t ++ codes "}") (append-nil (points ++ codes "]")) ∙ append_assoc points (codes "]") (codes "}") in
    ap (λ (t : List ℕ). words_in (44 ∷ (codes "\"own\":" ++ t))) (append_assoc (signed_decimal holding) (codes ",\"points\":" ++ (points_text left ++ [])) (codes "}"))
    ∙ ap (λ (ws : List (List ℕ)). codes "own" ∷ ws) (word_after 58 (signed_decimal holding) 44 _ refl (signed_word holding small) refl)
    ∙ ap (λ (t : List ℕ). codes "own" ∷ signed_decimal holding ∷ codes "points" ∷ words_in (91 ∷ t)) closed
    ∙ ap (λ (ws : List (List ℕ)). codes "own" ∷ signed_decimal holding ∷ codes "points" ∷ ws) (points_words 91 left 93 (codes "}") refl digits refl)

pub taken_words : (bought sold : ℕ) → bought < 2 ^ 64 → sold < 2 ^ 64 → words_in (44 ∷ ((codes "\"taken\":" ++ pair_text (decimal bought) (decimal sold)) ++ codes "}")) ≡ codes "taken" ∷ decimal bought ∷ decimal sold ∷ []
taken_words bought sold b s = ap (λ (ws : List (List ℕ)). codes "taken" ∷ ws) (pair_words (decimal bought) (decimal sold) 125 [] (number_word bought b) (number_word sold s))

pub sold_words : (units price : ℕ) → units < 2 ^ 64 → price < 2 ^ 64 → words_in (44 ∷ ((codes "\"sold\":" ++ pair_text (decimal units) (decimal price)) ++ codes "}")) ≡ codes "sold" ∷ decimal units ∷ decimal price ∷ []
sold_words units price u p = ap (λ (ws : List (List ℕ)). codes "sold" ∷ ws) (pair_words (decimal units) (decimal price) 125 [] (number_word units u) (number_word price p))

pub below_words : (need at offered : ℕ) → need < 2 ^ 64 → at < 2 ^ 64 → offered < 2 ^ 64
    → words_in (44 ∷ (below_members need at offered ++ codes "}")) ≡ codes "no" ∷ codes "belowquote" ∷ codes "need" ∷ decimal need ∷ codes "price" ∷ decimal at ∷ codes "offered" ∷ decimal offered ∷ []
below_words need at offered n a o =
    let third : List ℕ = codes ",\"offered\":" ++ (decimal offered ++ []) in
    let second : List ℕ = codes ",\"price\":" ++ (decimal at ++ third) in
    ap (λ (t : List ℕ). words_in (codes ",\"no\":\"belowquote\",\"need\":" ++ t)) (append_assoc (decimal need) second (codes "}"))
    ∙ ap (λ (ws : List (List ℕ)). codes "no" ∷ codes "belowquote" ∷ codes "need" ∷ ws) (word_after 58 (decimal need) 44 _ refl (number_word need n) refl)
    ∙ ap (λ (t : List ℕ). codes "no" ∷ codes "belowquote" ∷ codes "need" ∷ decimal need ∷ words_in (codes ",\"price\":" ++ t)) (append_assoc (decimal at) third (codes "}"))
    ∙ ap (λ (ws : List (List ℕ)). codes "no" ∷ codes "belowquote" ∷ codes "need" ∷ decimal need ∷ codes "price" ∷ ws) (word_after 58 (decimal at) 44 _ refl (number_word at a) refl)
    ∙ ap (λ (t : List ℕ). codes "no" ∷ codes "belowquote" ∷ codes "need" ∷ decimal need ∷ codes "price" ∷ decimal at ∷ words_in (codes ",\"offered\":" ++ t)) (append_assoc (decimal offered) [] (codes "}"))
    ∙ ap (λ (ws : List (List ℕ)). codes "no" ∷ codes "belowquote" ∷ codes "need" ∷ decimal need ∷ codes "price" ∷ decimal at ∷ codes "offered" ∷ ws) (word_after 58 (decimal offered) 125 [] refl (number_word offered o) refl)

pub open_words : (bid ask : ℕ) (closed : List ℕ) → bid < 2 ^ 64 → ask < 2 ^ 64 → words_in (44 ∷ ((codes "\"quote\":" ++ (pair_text (decimal bid) (decimal ask) ++ 44 ∷ closed)) ++ codes "}")) ≡ codes "quote" ∷ decimal bid ∷ decimal ask ∷ words_in (44 ∷ (closed ++ codes "}"))
open_words bid ask closed b a =
    ap (λ (t : List ℕ). words_in (codes ",\"quote\":" ++ t)) (append_assoc (pair_text (decimal bid) (decimal ask)) (44 ∷ closed) (codes "}"))
    ∙ ap (λ (ws : List (List ℕ)). codes "quote" ∷ ws) (pair_words (decimal bid) (decimal ask) 44 (closed ++ codes "}") (number_word bid b) (number_word ask a))

pub fault_words : (n : ℕ) → n < 2 ^ 64 → words_in (concat (codes "{\"no\":\"bid\",\"fault\":" ∷ decimal n ∷ codes "}" ∷ [])) ≡ codes "no" ∷ codes "bid" ∷ codes "fault" ∷ decimal n ∷ []
fault_words n small = ap (λ (ws : List (List ℕ)). codes "no" ∷ codes "bid" ∷ codes "fault" ∷ ws) (word_after 58 (decimal n) 125 [] refl (number_word n small) refl)
