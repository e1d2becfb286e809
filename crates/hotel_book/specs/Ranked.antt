-- The units of a hotel in their order, with the ask and each agent's winning number.
use Rattle.std.specs.Prelude.{◌≡◌, ℕ, ◌-◌, ◌≤◌, ◌==◌, Bool, true, List, All, map, take, count_by, slice_index_or}
use Rattle.hotel_book.specs.Prelude.{Unit as ShownUnit, BID_PRICE, agents, on_side, IsRankedBy, IsSortedBy, precedes}

-- the first unit precedes the second; all units of a hotel buy
abbrev pub ranks_first : ShownUnit → ShownUnit → Bool
ranks_first u v = precedes (on_side true u) (on_side true v)

-- each unit precedes those after it
abbrev pub AreRanked : List ShownUnit → Type 0
AreRanked units = IsRankedBy ranks_first units

-- no unit precedes one before it
abbrev pub AreSortedUnits : List ShownUnit → Type 0
AreSortedUnits units = IsSortedBy ranks_first units

-- the price of the unit that takes the last room, and 0 if a room is left
abbrev pub last_price : ℕ → List ShownUnit → ℕ
last_price rooms units = slice_index_or (map (λ u. u.price) units) (rooms - 1) 0

-- how many of the units that take the rooms are the agent's
abbrev pub won : ℕ → List ShownUnit → ℕ → ℕ
won rooms units agent = count_by (λ u. u.agent == agent) (take rooms units)

-- the units are in order, and the ask and the eight winning numbers are theirs
pub record IsRanked (rooms : ℕ) (units : List ShownUnit) (ask : ℕ) (winning : List ℕ) : Type 0 where
  pub some : 1 ≤ rooms
  pub sorted : AreSortedUnits units
  pub priced : All (λ u. u.price ≤ BID_PRICE) units
  pub asked : ask ≡ last_price rooms units
  pub wins : winning ≡ map (won rooms units) agents

-- what a contract sees of ranked units
pub record Ranked : Type 0 where
  pub rooms : ℕ
  pub units : List ShownUnit
