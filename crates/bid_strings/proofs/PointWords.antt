-- The two words of a point.
use Rattle.std.specs.Prelude.{ℕ, List, [], ◌∷◌, ◌++◌, decimal}
use Rattle.std.specs.Fmt.{signed_decimal}
use Rattle.tac_base.specs.declared.bids.Point.{Point}

-- `(` and the units
abbrev pub left_word : Point → List ℕ
left_word point = 40 ∷ signed_decimal point.units

-- the price and `)`
abbrev pub right_word : Point → List ℕ
right_word point = decimal point.price ++ 41 ∷ []
