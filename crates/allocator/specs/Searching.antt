-- What the search keeps; for private clauses.
use Rattle.std.specs.Prelude.{◌≡◌, ℕ, ◌<◌, true, false, List, Some, slice_get, slice_index_or}
use Rattle.allocator.specs.Prelude.{AccountFile, Package, is_package, packages, Narrowing, IsFeasible, total_of}
use Rattle.packages.specs.declared.travel_packages.Package.TheVariants as kinds

-- a feasible allocation and what it is worth
pub record IsReached (account : AccountFile) (allocation : List Package) (total : ℕ) : Type 0 where
  pub feasible : IsFeasible account allocation
  pub worth : total_of account.clients allocation ≡ total

-- no package is left to the client
abbrev pub IsOut : Narrowing → ℕ → Type 0
IsOut left client = (n : ℕ) (p : Package) → slice_get packages n ≡ Some p → left client p ≡ false

-- packages that are left to the eight clients
pub record ArePackagesLeft (left : Narrowing) (allocation : List Package) : Type 0 where
  pub lawful : (k : ℕ) → is_package (slice_index_or allocation k kinds.None) ≡ true
  pub kept : (k : ℕ) → k < 8 → left k (slice_index_or allocation k kinds.None) ≡ true
