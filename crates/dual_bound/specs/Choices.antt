-- What fixed values of features leave of the packages.
use Rattle.std.specs.Prelude.{◌≡◌, ℕ, ◌<◌, ◌==◌, ◌&&◌, nat_lt, Bool, true, List, [], length, Option, Some, None, is_some, count_by, set, replicate, slice_index_or, IsTrue, sum_by}
use Rattle.dual_bound.specs.Prelude.{Package, Narrowing, feature_of, values_of, fixed_at}

-- a value is the fixed one, or none is fixed
abbrev pub fits : Option ℕ → ℕ → Bool
fits None value = true
fits (Some fixed) value = value == fixed

-- a package has the fixed values of a client's four features
unfoldable pub has_fixed : List (Option ℕ) → Package → Bool
has_fixed row p =
    fits (slice_index_or row 0 None) (feature_of 0 p) && (fits (slice_index_or row 1 None) (feature_of 1 p)
    && (fits (slice_index_or row 2 None) (feature_of 2 p) && fits (slice_index_or row 3 None) (feature_of 3 p)))

-- each client keeps those packages that have its fixed values
abbrev pub chosen : List (List (Option ℕ)) → Narrowing
chosen choice client p = has_fixed (slice_index_or choice client []) p

-- how many features are fixed
abbrev pub fixed_count : List (List (Option ℕ)) → ℕ
fixed_count choice = sum_by (count_by is_some) choice

-- nothing is fixed
abbrev pub nothing_fixed : List (List (Option ℕ))
nothing_fixed = replicate 8 (replicate 4 None)

-- one more feature of a client is fixed
abbrev pub with_fixed : List (List (Option ℕ)) → ℕ → ℕ → ℕ → List (List (Option ℕ))
with_fixed choice client feature value = set choice client (set (slice_index_or choice client []) feature (Some value))

-- nothing is fixed, or one of so many values
abbrev pub is_value : ℕ → Option ℕ → Bool
is_value count None = true
is_value count (Some value) = nat_lt value count

-- four features for each of eight clients, each with one of its values or none
pub record IsChoice (choice : List (List (Option ℕ))) : Type 0 where
  pub eight : length choice ≡ 8
  pub four : (client : ℕ) → client < 8 → length (slice_index_or choice client []) ≡ 4
  pub values : (client feature : ℕ) → client < 8 → feature < 4 → IsTrue (is_value (values_of feature) (fixed_at choice client feature))
