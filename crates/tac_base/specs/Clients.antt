-- The preferences of clients, by the game description.
use Rattle.std.specs.Prelude.{◌≡◌, ℕ, ◌<◌, ◌≤◌, List, length, All}

-- what a client prefers: the day of arrival, the day of departure, and what the better hotel and the three types of ticket are worth
-- to it, in dollars
pub record Preferences : Type 0 where
  pub arrive : ℕ
  pub depart : ℕ
  -- for Tampa Towers
  pub premium : ℕ
  -- for alligator wrestling, the amusement park and the museum
  pub values : List ℕ

-- preferences in the ranges of the game
pub record IsClient (wants : Preferences) : Type 0 where
  pub arrives_first : 1 ≤ wants.arrive
  pub arrives_last : wants.arrive ≤ 4
  pub departs_later : wants.arrive < wants.depart
  pub departs_last : wants.depart ≤ 5
  pub premium_low : 50 ≤ wants.premium
  pub premium_high : wants.premium ≤ 150
  pub three : length wants.values ≡ 3
  pub values_high : All (λ value. value ≤ 200) wants.values
