-- The standing units of a ticket auction, those of each side in the order in which they trade.
use Rattle.std.specs.Prelude.{◌≡◌, ℕ, ◌≤◌, ◌==◌, Bool, true, false, not, List, ◌++◌, map, filter, count_by, sum_by}
use Rattle.std.specs.List.{AllByRecursion}
use Rattle.ticket_book.specs.Prelude.{Unit as ShownUnit, BID_PRICE, BID_UNITS, BidUnit, same_unit, without, on_side, IsRankedBy, IsSortedBy, goes_before, ticket_gone}

-- of two units of a side, whether the first goes before the second
abbrev pub goes_first : Bool → ShownUnit → ShownUnit → Bool
goes_first buys u v = goes_before (on_side buys u) (on_side buys v)

-- each unit of a side goes before those after it
abbrev pub IsSideInOrder : Bool → List ShownUnit → Type 0
IsSideInOrder buys units = IsRankedBy (goes_first buys) units

-- no unit of a side goes before one ahead of it
abbrev pub IsSideSorted : Bool → List ShownUnit → Type 0
IsSideSorted buys units = IsSortedBy (goes_first buys) units

-- whether two units of one side are one
abbrev pub is_same : ShownUnit → ShownUnit → Bool
is_same u v = same_unit (on_side true u) (on_side true v)

-- the units that buy, and those that sell
pub record SortedSides : Type 0 where
  pub buys : List ShownUnit
  pub sells : List ShownUnit

-- the units of both sides
abbrev pub both : SortedSides → List BidUnit
both sides = map (on_side true) sides.buys ++ map (on_side false) sides.sells

-- the units of a side
abbrev pub of_side : SortedSides → Bool → List ShownUnit
of_side sides true = sides.buys
of_side sides false = sides.sells

-- the units that are not the agent's
abbrev pub others : ℕ → List BidUnit → List BidUnit
others agent units = filter (λ u. not (u.agent == agent)) units

-- two lists have the same units, each equally often: under every weight of units, both have the same sum
abbrev pub HaveSame : List BidUnit → List BidUnit → Type 0
HaveSame units units' = (weight : BidUnit → ℕ) → sum_by weight units ≡ sum_by weight units'

-- what stands after a bid of an agent: the units of the others and the new ones, without those that traded
abbrev pub after_bid : List BidUnit → ℕ → List BidUnit → List BidUnit
after_bid standing agent new =
    let gone = ticket_gone standing new in others agent (without standing gone) ++ without new gone

-- each side is in order, no unit costs more than 10000 dollars, and each is of an agent that has at most 16
pub record AreSides (buys sells : List ShownUnit) (units : List BidUnit) : Type 0 where
  pub buys_sorted : IsSideSorted true buys
  pub sells_sorted : IsSideSorted false sells
  pub priced : AllByRecursion (λ u. u.price ≤ BID_PRICE) units
  pub owned : AllByRecursion (λ u. u.agent ≤ 7) units
  pub few : (agent : ℕ) → count_by (λ u. u.agent == agent) units ≤ BID_UNITS
