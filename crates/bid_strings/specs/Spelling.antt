-- The one spelling of a list of points.
use Rattle.std.specs.Prelude.{◌≡◌, ℕ, ◌<◌, List, [], ◌∷◌, ◌++◌, decimal, unsigned_abs, nat_lt, if◌then◌else◌, length, All, flat_map}
use Rattle.std.specs.Fmt.{signed_decimal}
use Rattle.std.specs.List.{join_with_byte}
use Rattle.tac_base.specs.declared.bids.Point.{Point}

-- the two words of a point: `(` and the units, the price and `)`
abbrev pub point_words : Point → List (List ℕ)
point_words point = (40 ∷ signed_decimal point.units) ∷ (decimal point.price ++ 41 ∷ []) ∷ []

-- `(`, the points separated by single spaces, `)`
abbrev pub spelling : List Point → List ℕ
spelling points = 40 ∷ (join_with_byte 32 (flat_map point_words points) ++ 41 ∷ [])

-- a point whose numbers have at most five digits
pub record HasFiveDigits (point : Point) : Type 0 where
  pub units : unsigned_abs point.units < 100000
  pub price : point.price < 100000

-- a text of this form: the spelling of one point or more, with numbers of at most five digits
pub record IsBidString (text : List ℕ) (points : List Point) : Type 0 where
  pub some : 0 < length points
  pub digits : All HasFiveDigits points
  pub spelled : text ≡ spelling points

-- the text of one point
abbrev pub point_text : Point → List ℕ
point_text point = join_with_byte 32 (point_words point)

-- the text that the next point adds after `count` others
abbrev pub next_text : ℕ → Point → List ℕ
next_text count point = if nat_lt 0 count then 32 ∷ point_text point else point_text point
