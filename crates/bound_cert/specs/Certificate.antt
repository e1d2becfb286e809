-- When a certificate holds, and what follows if it does.
use Rattle.std.specs.Prelude.{◌≡◌, ℕ, ◌+◌, ◌<◌, ◌≤◌, ◌==◌, ◌&&◌, ℤ, pos, Bool, true, List, Option, Some, None, int_le, slice_index_or}
use Rattle.game_text.specs.Accounts.{AccountFile}
use Rattle.packages.specs.declared.travel_packages.Package.{Package}
use Rattle.packages.specs.Bounds.{Narrowing, leaf_bound}
use Rattle.packages.specs.Features.{values_of, narrowed}
use Rattle.packages.specs.BestTotal.{IsFeasible, total_of}
use Rattle.packages.specs.declared.travel_packages.Package.TheVariants as kinds
use Rattle.bound_cert.specs.Trees.{Tree, leaf, split, Trees, no_trees, more, tree_count}

-- whether a leaf bound is at most the claim, or no package is left to some client
abbrev pub is_within : Option ℤ → ℕ → Bool
is_within None claim = true
is_within (Some bound) claim = int_le bound (pos claim)

module _ (account : AccountFile) (claim : ℕ) where
  abbrev mutual
    -- whether a part of a certificate holds, if these packages are left
    pub holds : Narrowing → Tree → Bool
    holds left (leaf prices) = is_within (leaf_bound account left prices) claim
    holds left (split client feature children) = tree_count children == values_of feature && all_hold left client feature 0 children

    -- whether the children of a split hold; the first of them is for this value
    pub all_hold : Narrowing → ℕ → ℕ → ℕ → Trees → Bool
    all_hold left client feature value no_trees = true
    all_hold left client feature value (more tree trees) = holds (narrowed left client feature value) tree && all_hold left client feature (value + 1) trees

-- every package is left to every client
abbrev pub all_left : Narrowing
all_left client p = true

-- each client's package is left to it
abbrev pub IsLeft : Narrowing → List Package → Type 0
IsLeft left allocation = (client : ℕ) → client < 8 → left client (slice_index_or allocation client kinds.None) ≡ true

-- no feasible allocation is worth more than the claim
abbrev pub BoundsAll : AccountFile → ℕ → Type 0
BoundsAll account claim = (allocation : List Package) → IsFeasible account allocation → total_of account.clients allocation ≤ claim
