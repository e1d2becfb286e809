-- What eight packages use and are worth together, and the highest total that they can reach, by the game description.
use Rattle.std.specs.Prelude.{◌≡◌, ℕ, ◌+◌, ◌<◌, ◌≤◌, List, [], ◌∷◌, length, All, sum_by}
use Rattle.tac_base.specs.Clients.{Preferences}
use Rattle.tac_base.specs.declared.limits.TheConstants.{GOODS}
use Rattle.game_text.specs.Accounts.{AccountFile}
use Rattle.packages.specs.declared.travel_packages.Package.{Package}
use Rattle.packages.specs.Packages.{IsPackage, use_of, utility_of}
use Rattle.packages.specs.Stocks.{stock_of}

-- how many units of a good an allocation uses
-- Row: second_traveller_has_no_seat (worked_rows/proofs/Trips.antt)
abbrev pub used_by : List Package → ℕ → ℕ
used_by allocation good = sum_by (λ p. use_of p good) allocation

-- what the clients' packages are worth to them together, in dollars
-- Row: one_traveller_is_worth_1000 (worked_rows/proofs/Trips.antt)
abbrev pub total_of : List Preferences → List Package → ℕ
total_of [] ps = 0
total_of (client ∷ clients) [] = 0
total_of (client ∷ clients) (p ∷ ps) = utility_of client p + total_of clients ps

-- An allocation is a package for each of an agent's eight clients. It is feasible if it uses no more of any good than the agent holds
-- at the end.
-- Row: lacking_goods_or_seven_packages_are_not_feasible (worked_rows/proofs/Trips.antt)
pub record IsFeasible (account : AccountFile) (allocation : List Package) : Type 0 where
  pub eight : length allocation ≡ 8
  pub lawful : All IsPackage allocation
  pub enough : (good : ℕ) → good < GOODS → used_by allocation good ≤ stock_of account.holdings good

-- The best total is the greatest worth of a feasible allocation: one is worth it, and none is worth more.
pub record IsBest (account : AccountFile) (total : ℕ) : Type 0 where
  pub reached : (allocation : List Package) × IsFeasible account allocation × (total_of account.clients allocation ≡ total)
  pub greatest : (allocation : List Package) → IsFeasible account allocation → total_of account.clients allocation ≤ total
