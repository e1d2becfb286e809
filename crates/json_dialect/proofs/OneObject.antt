-- Texts of JSON without a line end.
use Rattle.std.proofs.Common.{◌≡◌, ◌≢◌, ℕ, ◌^◌, ◌<◌, List, [], ◌∷◌, ◌++◌, None, refl, arith, ℤ, decimal, map, append_assoc, append-nil, unsigned_abs, codes}
use Rattle.std.specs.Fmt.{signed_decimal}
use Rattle.std.specs.List.{AllByRecursion, concat, join_with_byte}
use Rattle.std.proofs.lemmas.List.Elements.{All-append}
use Rattle.json_dialect.specs.Prelude.{Point, left_fault, HasFiveDigits, IsOneLine}
use Rattle.bid_strings.proofs.Laws.{lawful_points}
use Rattle.line_protocol.proofs.OneLine.{known_line, number_line, signed_line}
use Rattle.json_dialect.specs.JsonReplies.{pair_text, json_point_text, points_text, json_place, own_members, cash_members, placed}

-- pieces without a line end
pub whole_line : (pieces : List (List ℕ)) → AllByRecursion IsOneLine pieces → IsOneLine (concat pieces)
whole_line [] h = known_line [] refl
whole_line (piece ∷ pieces) h = All-append (λ byte. byte ≢ 10) piece (concat pieces) h.0 (whole_line pieces h.1)

pub pair_line : (first second : List ℕ) → IsOneLine first → IsOneLine second → IsOneLine (pair_text first second)
pair_line first second f s = whole_line (codes "[" ∷ first ∷ codes "," ∷ second ∷ codes "]" ∷ []) (known_line (codes "[") refl, (f, (known_line (codes ",") refl, (s, (known_line (codes "]") refl, tt)))))

point_line : (point : Point) → HasFiveDigits point → IsOneLine (json_point_text point)
point_line point digits =
    let units = digits.units in
    let price = digits.price in
    pair_line (signed_decimal point.units) (decimal point.price) (signed_line point.units (omega (arith, units))) (number_line point.price (omega (arith, price)))

joined_line : (points : List Point) → AllByRecursion HasFiveDigits points → IsOneLine (join_with_byte 44 (map json_point_text points))
joined_line [] h = known_line [] refl
joined_line (point ∷ []) h = point_line point h.0
joined_line (point ∷ next ∷ points) h =
    All-append (λ byte. byte ≢ 10) (json_point_text point) (44 ∷ join_with_byte 44 (map json_point_text (next ∷ points))) (point_line point h.0)
    (All-append (λ byte. byte ≢ 10) (codes ",") (join_with_byte 44 (map json_point_text (next ∷ points))) (known_line (codes ",") refl) (joined_line (next ∷ points) h.1))

-- standing points have no line end
pub points_line : (points : List Point) → left_fault points ≡ None → IsOneLine (points_text points)
points_line points h = whole_line (codes "[" ∷ join_with_byte 44 (map json_point_text points) ∷ codes "]" ∷ []) (known_line (codes "[") refl, (joined_line points (lawful_points 0 0 points h), (known_line (codes "]") refl, tt)))

pub two_line : (first second : List ℕ) → IsOneLine first → IsOneLine second → IsOneLine (first ++ second)
two_line first second f s = All-append (λ byte. byte ≢ 10) first second f s

pub numbers_line : (first second : ℕ) → first < 2 ^ 32 → second < 2 ^ 32 → IsOneLine (pair_text (decimal first) (decimal second))
numbers_line first second f s = pair_line (decimal first) (decimal second) (number_line first f) (number_line second s)

pub place_line : (position : ℕ) → position < 2 ^ 32 → IsOneLine (json_place position)
place_line position small = whole_line (codes "{\"at\":" ∷ decimal position ∷ codes "," ∷ []) (known_line (codes "{\"at\":") refl, (number_line position small, (known_line (codes ",") refl, tt)))

pub placed_line : (position : ℕ) (members : List ℕ) → IsOneLine (json_place position) → IsOneLine members → IsOneLine (placed position members)
placed_line position members p m = whole_line (json_place position ∷ members ∷ codes "}" ∷ []) (p, (m, (known_line (codes "}") refl, tt)))

pub own_line : (holding : ℤ) (left : List Point) → unsigned_abs holding < 2 ^ 64 → IsOneLine (points_text left) → IsOneLine (own_members holding left)
own_line holding left small h =
    whole_line (codes "\"own\":" ∷ signed_decimal holding ∷ codes ",\"points\":" ∷ points_text left ∷ [])
    (known_line (codes "\"own\":") refl, (signed_line holding small, (known_line (codes ",\"points\":") refl, (h, tt))))

pub cash_line : (position : ℕ) (dollars : ℤ) → position < 2 ^ 32 → unsigned_abs dollars < 2 ^ 64 → IsOneLine (placed position (cash_members dollars))
cash_line position dollars small fits =
    placed_line position (cash_members dollars) (place_line position small) (two_line (codes "\"cash\":") (signed_decimal dollars) (known_line (codes "\"cash\":") refl) (signed_line dollars fits))

-- four pieces that were appended one after the other
pub four_pieces : (old first second third fourth one two three four : List ℕ) → one ≡ old ++ first → two ≡ one ++ second → three ≡ two ++ third → four ≡ three ++ fourth → four ≡ old ++ concat (first ∷ second ∷ third ∷ fourth ∷ [])
four_pieces old first second third fourth one two three four a b c d = rw (d, c, b, a) (simp (append_assoc, append-nil))
