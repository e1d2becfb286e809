-- Tables of worths that are restricted to the packages that a choice leaves.
use Rattle.std.specs.Prelude.{◌≡◌, ℕ, ◌<◌, ◌<ℤ◌, ℤ, pos, true, false, List, Option, Some, None, slice_get}
use Rattle.dual_bound.specs.Prelude.{Package, packages, Narrowing, feature_of, IsNarrowed, dollars_at}

-- a table keeps the dollars of all packages that are left
abbrev pub KeepsLeft : Narrowing → List ℤ → List ℤ → Type 0
KeepsLeft left before after = (k n : ℕ) (p : Package) → k < 8 → slice_get packages n ≡ Some p → left k p ≡ true → dollars_at after k n ≡ dollars_at before k n

-- a table keeps the dollars of the packages that are left, and has less than nothing for the others
pub record IsRestricted (left : Narrowing) (before after : List ℤ) : Type 0 where
  pub keeps : KeepsLeft left before after
  pub takes : (k n : ℕ) (p : Package) → k < 8 → slice_get packages n ≡ Some p → left k p ≡ false → dollars_at after k n <ℤ pos 0

-- a table is narrowed by the fixed value of a client's feature, and stays the same where none is fixed
abbrev pub IsNarrowedBy : Option ℕ → ℕ → ℕ → List ℤ → List ℤ → Type 0
IsNarrowedBy None client feature before after = after ≡ before
IsNarrowedBy (Some value) client feature before after = IsNarrowed (feature_of feature) client value before after
