-- Printing one point after the other.
use Rattle.std.proofs.Common.{◌≡◌, ℕ, ◌+◌, ◌<◌, ◌≤◌, List, [], ◌∷◌, ◌++◌, length, get_or, take, refl, sym, ap, ◌∙◌, append_assoc, arith, ℤ, decimal, lit<, SFits, w8, w64, to_z, of_z, ltb, true, flat_map, length-take-le, lt-ltb}
use Rattle.std.specs.Fmt.{signed_decimal}
use Rattle.std.specs.List.{join_with_byte}
use Rattle.std.proofs.lemmas.List.{take_more}
use Rattle.std.proofs.lemmas.List.Concat.{flat_map-append}
use Rattle.std.proofs.lemmas.Fmt.{length-decimal-le, length_signed_le}
use Rattle.std.proofs.lemmas.Int.{ints, to_z-of_z}
use Rattle.tac_base.specs.declared.bids.Point.{Point}
use Rattle.bid_strings.specs.Spelling.{point_words, point_text, next_text}
use Rattle.bid_strings.proofs.PointWords.{left_word, right_word}

pub short_units : (units : ℤ) → SFits w8 units → length (signed_decimal units) ≤ 4
short_units units fits = length_signed_le 3 units (search (arith, ints)) (search (arith, ints))

pub short_price : (price : ℕ) → price < 65536 → length (decimal price) ≤ 5
short_price price fits = length-decimal-le 5 price (lit< tt) (omega (arith, fits)) (omega (arith, fits))

join_push : (word : List ℕ) (words : List (List ℕ)) (left right : List ℕ) → join_with_byte 32 (word ∷ (words ++ left ∷ right ∷ [])) ≡ join_with_byte 32 (word ∷ words) ++ 32 ∷ (left ++ 32 ∷ right)
join_push word [] left right = refl
join_push word (next ∷ words) left right =
    ap (λ (t : List ℕ). word ++ 32 ∷ t) (join_push next words left right) ∙ sym (append_assoc word (32 ∷ join_with_byte 32 (next ∷ words)) (32 ∷ (left ++ 32 ∷ right)))

pushed : (front : List Point) (point : Point) → join_with_byte 32 (flat_map point_words front) ++ next_text (length front) point ≡ join_with_byte 32 (flat_map point_words (front ++ point ∷ []))
pushed [] point = refl
pushed (first ∷ front) point =
    let some : ltb 0 (length (first ∷ front)) ≡ true = lt-ltb _ _ (omega arith) in
    let next : next_text (length (first ∷ front)) point ≡ 32 ∷ point_text point = rw some refl in
    let words : flat_map point_words ((first ∷ front) ++ point ∷ []) ≡ left_word first ∷ (right_word first ∷ flat_map point_words front ++ (left_word point ∷ right_word point ∷ [])) = flat_map-append point_words (first ∷ front) (point ∷ []) in
    ap (λ (t : List ℕ). join_with_byte 32 (flat_map point_words (first ∷ front)) ++ t) next ∙ sym (ap (join_with_byte 32) words ∙ join_push (left_word first) (right_word first ∷ flat_map point_words front) (left_word point) (right_word point))

pub printed_more : (points : List Point) (i : ℕ) (d : Point) → i < length points
    → join_with_byte 32 (flat_map point_words (take i points)) ++ next_text i (get_or points i d) ≡ join_with_byte 32 (flat_map point_words (take (i + 1) points))
printed_more points i d lt =
    let point = get_or points i d in
    let len : length (take i points) ≡ i = length-take-le i points (omega (arith, lt)) in
    ap (λ (n : ℕ). join_with_byte 32 (flat_map point_words (take i points)) ++ next_text n point) (sym len) ∙ pushed (take i points) point ∙ ap (λ (ps : List Point). join_with_byte 32 (flat_map point_words ps)) (sym (take_more points i d lt))

pub text_more : (old out new : List ℕ) (points : List Point) (i : ℕ) (d : Point) → i < length points → out ≡ old ++ 40 ∷ join_with_byte 32 (flat_map point_words (take i points)) → new ≡ out ++ next_text i (get_or points i d)
    → new ≡ old ++ 40 ∷ join_with_byte 32 (flat_map point_words (take (i + 1) points))
text_more old out new points i d lt so_far is =
    is ∙ ap (λ (t : List ℕ). t ++ next_text i (get_or points i d)) so_far ∙ append_assoc old (40 ∷ join_with_byte 32 (flat_map point_words (take i points))) (next_text i (get_or points i d)) ∙ ap (λ (t : List ℕ). old ++ 40 ∷ t) (printed_more points i d lt)

wide : (units : ℤ) → SFits w8 units → SFits w64 units
wide units fits = search (arith, ints)

-- the units as they are passed
pub passed_units : (units r : ℤ) → SFits w8 units → r ≡ to_z w8 (of_z w8 units) → length (signed_decimal (to_z w64 (of_z w64 r))) ≤ 4
passed_units units r fits is =
    let same : r ≡ units = is ∙ to_z-of_z w8 units fits in
    rw (same, to_z-of_z w64 units (wide units fits)) (short_units units fits)
