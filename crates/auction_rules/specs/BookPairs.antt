-- The pairs of units that trade in a ticket auction, in the form that the books compute. Read `ticket_pairs` in `TicketMatch` instead:
-- `pairs_same` (proofs/SamePairs) proves the two equal.
use Rattle.std.specs.Prelude.{ℕ, not, if◌then◌else◌, List, [], ◌∷◌, ◌++◌, Option, Some, None, map, filter, flat_map}
use Rattle.auction_rules.specs.Prelude.{Trade}
use Rattle.auction_rules.specs.declared.units.BidUnit.{BidUnit}
use Rattle.auction_rules.specs.Units.{same_unit}
use Rattle.auction_rules.specs.TicketMatch.{best, crosses, faces, pair_trade}

-- the standing unit, if its price and the arriving unit's cross
abbrev pub if_crossing : BidUnit → Option BidUnit → Option BidUnit
if_crossing arriving None = None
if_crossing arriving (Some standing) = if crosses arriving standing then Some standing else None

-- the partner of an arriving unit: the best of the units that it faces, if the prices of the two cross
abbrev pub partner : List BidUnit → BidUnit → Option BidUnit
partner standing arriving = if_crossing arriving (best (filter (faces arriving) standing))

-- the arriving unit with its partner, if it has one
abbrev pub pair_with : BidUnit → Option BidUnit → List (BidUnit × BidUnit)
pair_with arriving None = []
pair_with arriving (Some standing) = (arriving, standing) ∷ []

-- the standing units except the one that was taken
abbrev pub not_taken : Option BidUnit → List BidUnit → List BidUnit
not_taken None standing = standing
not_taken (Some taken) standing = filter (λ u. not (same_unit u taken)) standing

-- the pairs of arriving and standing units: units arrive in order, and no standing unit is taken twice
abbrev pub pairs : List BidUnit → List BidUnit → List (BidUnit × BidUnit)
pairs standing [] = []
pairs standing (unit ∷ units) = pair_with unit (partner standing unit) ++ pairs (not_taken (partner standing unit) standing) units

-- the trades of the arriving units
abbrev pub ticket_trades : ℕ → List BidUnit → List BidUnit → List Trade
ticket_trades good standing units = map (pair_trade good) (pairs standing units)

-- the two units of each pair
abbrev pub units_of_pairs : List (BidUnit × BidUnit) → List BidUnit
units_of_pairs matched = flat_map (λ pair. pair.0 ∷ pair.1 ∷ []) matched

-- all units that trade
abbrev pub ticket_gone : List BidUnit → List BidUnit → List BidUnit
ticket_gone standing units = units_of_pairs (pairs standing units)
