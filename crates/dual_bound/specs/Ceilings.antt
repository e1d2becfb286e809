-- What tables of worths and costs bound.
use Rattle.std.specs.Prelude.{◌≡◌, ℕ, ◌+◌, ◌<◌, ◌≤ℤ◌, ◌<ℤ◌, ◌+ℤ◌, ◌-ℤ◌, ℤ, pos, true, length, List, [], ◌∷◌, Some, slice_get, slice_index_or, All}
use Rattle.dual_bound.specs.Prelude.{Preferences, AccountFile, IsAccount, Package, utility_of, packages, Narrowing, cost_of, stock_value, leaf_bound, is_within, AreEntries, dollars_at}
use Rattle.packages.specs.declared.travel_packages.Package.TheVariants as kinds

-- no package that is left to a client is worth more to it than the table says
abbrev pub IsCeiling : AccountFile → Narrowing → List ℤ → Type 0
IsCeiling account left table =
    (k n : ℕ) (client : Preferences) (p : Package) → slice_get account.clients k ≡ Some client → slice_get packages n ≡ Some p → left k p ≡ true
    → pos (utility_of client p) ≤ℤ dollars_at table k n

-- A claim bounds, at the prices, what can be reached: for each account whose stock costs so much and each narrowing that the table is
-- a ceiling of, the leaf's bound is within the claim.
abbrev pub BoundsWorths : List ℕ → ℕ → List ℤ → ℕ → Type 0
BoundsWorths prices stock table claim =
    (account : AccountFile) (left : Narrowing) → IsAccount account → stock ≡ stock_value account.holdings prices → IsCeiling account left table → is_within (leaf_bound account left prices) claim ≡ true

-- a table has for each package what it costs at the prices
abbrev pub AreCosts : List ℕ → List ℕ → Type 0
AreCosts prices costs = AreEntries (cost_of prices) 0 costs

-- what packages, by number, are worth beyond their costs by a table, of which the first is the client's of a number
abbrev pub margins_at : List ℕ → List ℤ → ℕ → List ℕ → ℤ
margins_at prices table k [] = pos 0
margins_at prices table k (n ∷ ns) = (dollars_at table k n -ℤ pos (cost_of prices (slice_index_or packages n kinds.None))) +ℤ margins_at prices table (k + 1) ns

-- some packages of the eight clients are worth more by a table, with what the stock costs, than a claim
pub record HasMore (prices : List ℕ) (stock : ℕ) (table : List ℤ) (claim : ℕ) : Type 0 where
  pub numbers : List ℕ
  pub eight : length numbers ≡ 8
  pub lawful : All (λ n. n < 393) numbers
  pub more : pos claim <ℤ (pos stock +ℤ margins_at prices table 0 numbers)
