-- The text of a certificate: a line for each node; the lines of a split's children follow its own.
use Rattle.std.specs.Prelude.{ℕ, List, [], ◌∷◌, ◌++◌}
use Rattle.text_forms.specs.Lines.{text_of}
use Rattle.bound_cert.specs.Trees.{Tree, leaf, split, Trees, no_trees, more}
use Rattle.bound_cert.specs.NodeLines.{leaf_text, split_text}

abbrev mutual
  -- the lines of a tree: that of its root, and then those of the root's children
  pub tree_lines : Tree → List (List ℕ)
  tree_lines (leaf prices) = leaf_text prices ∷ []
  tree_lines (split client feature children) = split_text client feature ∷ forest_lines children

  -- the lines of consecutive trees
  pub forest_lines : Trees → List (List ℕ)
  forest_lines no_trees = []
  forest_lines (more tree trees) = tree_lines tree ++ forest_lines trees

-- the canonical text
abbrev pub cert_text : Tree → List ℕ
cert_text tree = text_of (tree_lines tree)
