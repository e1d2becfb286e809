-- Tables of what packages are and of what they are worth.
use Rattle.std.specs.Prelude.{◌≡◌, ◌≢◌, ℕ, ◌+◌, ◌*◌, ◌<◌, ◌<ℤ◌, ℤ, pos, List, [], ◌∷◌, Some, slice_get, slice_index_or}
use Rattle.relaxation.specs.Prelude.{Preferences, Package, utility_of, packages, feature_of, values_of}

-- the dollars of a client and a package, by number, in a table that has 393 places for each client
abbrev pub dollars_at : List ℤ → ℕ → ℕ → ℤ
dollars_at table k n = slice_index_or table (393 * k + n) (pos 0)

-- a table has what each package is worth to each client
abbrev pub HasWorths : List Preferences → List ℤ → Type 0
HasWorths clients table =
    (k n : ℕ) (client : Preferences) (p : Package) → slice_get clients k ≡ Some client → slice_get packages n ≡ Some p → dollars_at table k n ≡ pos (utility_of client p)

-- a table has for each package what f gives
abbrev pub AreEntries : {A : Type 0} → (Package → A) → A → List A → Type 0
AreEntries f none table = (n : ℕ) (p : Package) → slice_get packages n ≡ Some p → slice_index_or table n none ≡ f p

-- a package's four features
abbrev pub features_of : Package → List ℕ
features_of p = feature_of 0 p ∷ feature_of 1 p ∷ feature_of 2 p ∷ feature_of 3 p ∷ []

-- a table has what the package of a number is worth to the first so many clients, and else the dollars of another one
pub record IsPut (clients : List Preferences) (number : ℕ) (p : Package) (before : List ℤ) (count : ℕ) (after : List ℤ) : Type 0 where
  pub worth : (k : ℕ) (wants : Preferences) → k < count → slice_get clients k ≡ Some wants → dollars_at after k number ≡ pos (utility_of wants p)
  pub others : (k n : ℕ) → n < 393 → n ≢ number → dollars_at after k n ≡ dollars_at before k n

-- a table keeps the dollars of all packages but those of one client that lack a value
abbrev pub KeepsOthers : (Package → ℕ) → ℕ → ℕ → List ℤ → List ℤ → Type 0
KeepsOthers feature client value before after =
    (k n : ℕ) (p : Package) → k < 8 → slice_get packages n ≡ Some p → (k ≡ client → feature p ≡ value) → dollars_at after k n ≡ dollars_at before k n

-- a table keeps the dollars of these packages, and has less than nothing for the others
pub record IsNarrowed (feature : Package → ℕ) (client value : ℕ) (before after : List ℤ) : Type 0 where
  pub keeps : KeepsOthers feature client value before after
  pub takes : (n : ℕ) (p : Package) → slice_get packages n ≡ Some p → feature p ≢ value → dollars_at after client n <ℤ pos 0

-- a table is narrowed by some feature of some client to one of its values
pub record IsNarrowedSomewhere (before after : List ℤ) : Type 0 where
  pub client : ℕ
  pub feature : ℕ
  pub value : ℕ
  pub of_client : client < 8
  pub of_feature : feature < 4
  pub of_value : value < values_of feature
  pub narrowed : IsNarrowed (feature_of feature) client value before after
