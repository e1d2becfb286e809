-- A certificate's tree as a list of plain numbers, by which proofs distinguish trees; no contract mentions it.
use Rattle.std.specs.Prelude.{◌≡◌, ◌⊎◌, ℕ, List, [], ◌∷◌, refl}
use mathlib.Core.Logic.{inl, inr}
use mathlib.Core.Path.{◌∙◌}
use Rattle.std.specs.Coded.{Coded, code_by, coded_ℕ, coded_list, coded×, coded⊎}
use base.Stored.{coded_unit}
use Rattle.bound_cert.specs.Trees.{Tree, leaf, split, Trees, no_trees, more}

-- prices; the client and the feature of a split, after its children; the end of some children; one more child in front of them
abbrev pub TreeStep : Type 0
TreeStep = List ℕ ⊎ ((ℕ × ℕ) ⊎ (Unit {0} ⊎ Unit {0}))

abbrev mutual
  -- the steps that build a tree, and then other steps
  pub steps : Tree → List TreeStep → List TreeStep
  steps (leaf prices) rest = inl prices ∷ rest
  steps (split client feature children) rest = all_steps children (inr (inl (client, feature)) ∷ rest)

  pub all_steps : Trees → List TreeStep → List TreeStep
  all_steps no_trees rest = inr (inr (inl tt)) ∷ rest
  all_steps (more tree trees) rest = steps tree (all_steps trees (inr (inr (inr tt)) ∷ rest))

-- the tree that the steps build on those built before
abbrev pub built : List TreeStep → List Tree → List Trees → Tree
built [] [] forests = leaf []
built [] (tree ∷ trees) forests = tree
built (inl prices ∷ rest) trees forests = built rest (leaf prices ∷ trees) forests
built (inr (inl at) ∷ rest) trees [] = leaf []
built (inr (inl at) ∷ rest) trees (children ∷ forests) = built rest (split at.0 at.1 children ∷ trees) forests
built (inr (inr (inl _)) ∷ rest) trees forests = built rest trees (no_trees ∷ forests)
built (inr (inr (inr _)) ∷ rest) [] forests = leaf []
built (inr (inr (inr _)) ∷ rest) (tree ∷ trees) [] = leaf []
built (inr (inr (inr _)) ∷ rest) (tree ∷ trees) (forest ∷ forests) = built rest trees (more tree forest ∷ forests)

mutual
  pub built-steps : (tree : Tree) (rest : List TreeStep) (trees : List Tree) (forests : List Trees) → built (steps tree rest) trees forests ≡ built rest (tree ∷ trees) forests
  built-steps (leaf prices) rest trees forests = refl
  built-steps (split client feature children) rest trees forests = built-all children (inr (inl (client, feature)) ∷ rest) trees forests

  pub built-all : (children : Trees) (rest : List TreeStep) (trees : List Tree) (forests : List Trees) → built (all_steps children rest) trees forests ≡ built rest trees (children ∷ forests)
  built-all no_trees rest trees forests = refl
  built-all (more tree children) rest trees forests =
      built-steps tree (all_steps children (inr (inr (inr tt)) ∷ rest)) trees forests ∙ built-all children (inr (inr (inr tt)) ∷ rest) (tree ∷ trees) forests

abbrev pub tree_code : Coded Tree
tree_code = code_by (List TreeStep) (coded_list (coded⊎ (coded_list coded_ℕ) (coded⊎ (coded× coded_ℕ coded_ℕ) (coded⊎ coded_unit coded_unit)))) (λ tree. steps tree []) (λ built_by. built built_by [] []) (λ tree. built-steps tree [] [] [])
