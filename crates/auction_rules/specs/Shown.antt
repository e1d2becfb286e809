-- Units as the books of hotels and tickets show them.
use Rattle.std.specs.Prelude.{◌≡◌, ℕ, ⊤, Bool, true, false, List, [], ◌∷◌, sum_by}
use Rattle.std.specs.List.{AllByRecursion}
use Rattle.tac_base.specs.declared.units.Unit.{Unit as ShownUnit}
use Rattle.auction_rules.specs.declared.units.BidUnit.{BidUnit}

-- a unit without its side
abbrev pub shown_unit : BidUnit → ShownUnit
shown_unit u = record { agent = u.agent; price = u.price; position = u.position; index = u.index }

-- a unit of a side
abbrev pub on_side : Bool → ShownUnit → BidUnit
on_side buys u = record { agent = u.agent; buys = buys; price = u.price; position = u.position; index = u.index }

-- the units shown are those that stand, each once, in any order: under every weight of units, both have the same sum
abbrev pub AreShown : List BidUnit → List ShownUnit → Type 0
AreShown standing units = (weight : ShownUnit → ℕ) → sum_by weight units ≡ sum_by (λ u. weight (shown_unit u)) standing

-- each unit goes before those after it, in an order that says of two units whether the first goes before the second
abbrev pub IsRankedBy : (ShownUnit → ShownUnit → Bool) → List ShownUnit → Type 0
IsRankedBy first [] = ⊤
IsRankedBy first (u ∷ units) = AllByRecursion (λ v. first u v ≡ true) units × IsRankedBy first units

-- no unit goes before one ahead of it
abbrev pub IsSortedBy : (ShownUnit → ShownUnit → Bool) → List ShownUnit → Type 0
IsSortedBy first [] = ⊤
IsSortedBy first (u ∷ units) = AllByRecursion (λ v. first v u ≡ false) units × IsSortedBy first units
