-- Bid strings and what the definitions answer to them.
use Rattle.std.proofs.Common.{◌≡◌, ℕ, List, [], ◌∷◌, pos, negsuc, Result, Ok, Err, refl, codes}
use Rattle.tac_base.specs.declared.bids.Point.{Point}
use Rattle.tac_base.specs.declared.bids.BidFault.{BidFault}
use Rattle.tac_base.specs.declared.bids.BidFault.TheVariants.{Syntax, TooManyPoints, TooManyUnits, Price, ZeroUnits}
use Rattle.tac_base.specs.Numerals.{numeral, signed_numeral}
use Rattle.bid_strings.specs.BidForm.{points_of, point_of, judged}

abbrev read : List ℕ → Result (List Point) BidFault
read text = judged (points_of text)

numerals_have_one_form : (read (codes "((01 5))") ≡ Err Syntax)
    × (read (codes "((-0 5))") ≡ Err Syntax)
    × (read (codes "((1 100000))") ≡ Err Syntax)
    × (read (codes "((-1 60))") ≡ Ok (record { units = negsuc 0; price = 60 } ∷ []))
unfolding points_of point_of numeral signed_numeral
numerals_have_one_form = (refl, refl, refl, refl)

points_have_one_form : (read (codes "((2 150) (1 100))") ≡ Ok (record { units = pos 2; price = 150 } ∷ record { units = pos 1; price = 100 } ∷ []))
    × (read (codes "((1  5))") ≡ Err Syntax)
    × (read (codes "()") ≡ Err Syntax)
unfolding points_of point_of numeral signed_numeral
points_have_one_form = (refl, refl, refl)

faults_of_points_in_their_order : (read (codes "((0 10001))") ≡ Err ZeroUnits)
    × (read (codes "((0 100))") ≡ Err ZeroUnits)
    × (read (codes "((1 10001))") ≡ Err Price)
    × (read (codes "((1 0))") ≡ Err Price)
    × (read (codes "((9 1) (-8 2))") ≡ Err TooManyUnits)
    × (read (codes "((1 1) (1 1) (1 1) (1 1) (1 1) (1 1) (1 1) (1 1) (1 1) (1 1) (1 1) (1 1) (1 1) (1 1) (1 1) (1 1) (0 0))") ≡ Err TooManyPoints)
unfolding points_of point_of numeral signed_numeral
faults_of_points_in_their_order = (refl, refl, refl, refl, refl, refl)
