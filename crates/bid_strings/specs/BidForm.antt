-- How a bid string is read.
use Rattle.std.specs.Prelude.{ℕ, ◌-◌, ◌==◌, ◌&&◌, nat_le, if◌then◌else◌, List, [], ◌∷◌, ℤ, Option, Some, None, Result, Ok, Err, length, take, drop, slice_index, option_map}
use Rattle.tac_base.specs.declared.bids.Point.{Point}
use Rattle.tac_base.specs.declared.bids.BidFault.{BidFault}
use Rattle.tac_base.specs.Bids.{fault_of}
use Rattle.tac_base.specs.Numerals.{numeral, signed_numeral}
use Rattle.text_forms.specs.Words.{words_of}
use Rattle.tac_base.specs.declared.bids.BidFault.TheVariants.{Syntax}

-- all bytes of a list except the last
abbrev pub front : List ℕ → List ℕ
front bytes = take (length bytes - 1) bytes

-- the last byte of a list
abbrev pub last : List ℕ → ℕ
last bytes = slice_index bytes (length bytes - 1)

-- the point with these units and this price
abbrev pub paired : Option ℤ → Option ℕ → Option Point
paired None price = None
paired (Some units) None = None
paired (Some units) (Some price) = Some (record { units = units; price = price })

-- a point is two words: `(` and its units, its price and `)`
unfoldable pub point_of : List ℕ → List ℕ → Option Point
point_of left right = if slice_index left 0 == 40 && last right == 41 then paired (signed_numeral 5 (drop 1 left)) (numeral 5 (front right)) else None

-- a point in front of others
abbrev pub point_then : Option Point → Option (List Point) → Option (List Point)
point_then None others = None
point_then (Some point) others = option_map (λ points. point ∷ points) others

-- the points of a list of words
abbrev pub points_from : List (List ℕ) → Option (List Point)
points_from [] = Some []
points_from (left ∷ []) = None
points_from (left ∷ right ∷ words) = point_then (point_of left right) (points_from words)

-- the points of a text: `(`, the points separated by single spaces, `)`
unfoldable pub points_of : List ℕ → Option (List Point)
points_of text = if nat_le 2 (length text) && (slice_index text 0 == 40 && last text == 41) then points_from (words_of (take (length text - 2) (drop 1 text))) else None

-- the points, or their fault
abbrev pub verdict : List Point → Option BidFault → Result (List Point) BidFault
verdict points None = Ok points
verdict points (Some fault) = Err fault

-- the bid in a text with these points; without points, the text does not have the form
abbrev pub judged : Option (List Point) → Result (List Point) BidFault
judged None = Err Syntax
judged (Some points) = verdict points (fault_of points)

-- the fault of a text if a point has this fault: `Syntax` if the points after it lack the form
abbrev pub form_fault : BidFault → Option (List Point) → BidFault
form_fault fault None = Syntax
form_fault fault (Some points) = fault
