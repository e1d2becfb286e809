-- What is left of one point of a bid.
use Rattle.std.specs.Prelude.{ℕ, ◌==◌, if◌then◌else◌, List, [], ◌∷◌}
use Rattle.ticket_book.specs.Prelude.{Point, signed_as}

-- this many units, bought or sold as by the point, at its price
abbrev pub with_units : Point → ℕ → Point
with_units point count = record { units = signed_as point.units count; price = point.price }

-- the point with this many of its units, or nothing without any
abbrev pub point_left : Point → ℕ → List Point
point_left point count = if count == 0 then [] else with_units point count ∷ []
