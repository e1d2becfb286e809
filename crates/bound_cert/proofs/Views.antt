-- A certificate, level by level, and its children one by one.
use Rattle.std.proofs.Common.{◌≡◌, ℕ, List, [], ◌∷◌, Vec, Global, length, refl, arith, rules}
use Rattle.bound_cert.specs.declared.trees.CertNode.{CertNode, Leaf, Split, the_lemmas}
use Rattle.bound_cert.specs.{leaf, split, tree_count, tree_of, forest_of}

pub tree_of-Leaf : (prices : List ℕ) → tree_of (Leaf prices) ≡ leaf prices
tree_of-Leaf prices = search (rules, the_lemmas)

pub tree_of-Split : (client feature : ℕ) (children : Vec CertNode Global) → tree_of (Split client feature children) ≡ split client feature (forest_of children.items)
tree_of-Split client feature children = search (rules, the_lemmas)

pub tree_count-forest_of : (nodes : List CertNode) → tree_count (forest_of nodes) ≡ length nodes
tree_count-forest_of [] = refl
tree_count-forest_of (node ∷ nodes) = omega (arith, tree_count-forest_of nodes)

pub ruleset views = (tree_of-Leaf, tree_of-Split, tree_count-forest_of)
