-- The tree that a part of a certificate stands for.
use Rattle.std.specs.Prelude.{List, [], ◌∷◌, map}
use Rattle.bound_cert.specs.declared.trees.CertNode.{CertNode, fold-CertNode}
use Rattle.bound_cert.specs.declared.trees.CertNode.TheOpen.{CertNode-F}
use Rattle.bound_cert.specs.Trees.{Tree, leaf, split, Trees, no_trees, more}

abbrev pub trees_of : List Tree → Trees
trees_of [] = no_trees
trees_of (tree ∷ trees) = more tree (trees_of trees)

-- one level, with each child already seen as its tree
abbrev pub view_step : CertNode-F Tree → Tree
view_step (CertNode-F.Leaf prices) = leaf prices
view_step (CertNode-F.Split client feature children) = split client feature (trees_of children.items)

abbrev pub tree_of : CertNode → Tree
tree_of = fold-CertNode Tree view_step

-- the trees of several parts
abbrev pub forest_of : List CertNode → Trees
forest_of nodes = trees_of (map tree_of nodes)
