-- The tree of a certificate.
use Rattle.std.specs.Prelude.{ℕ, zero, suc, ◌+◌, ◌==◌, ◌&&◌, nat_lt, nat_le, Bool, true, false, List, length, IsTrue}
use Rattle.std.specs.List.{list_all}
use Rattle.tac_base.specs.declared.limits.TheConstants.{CERTIFICATE_DEPTH, DUAL_PRICE, GOODS}
use Rattle.packages.specs.Features.{values_of}

mutual
  -- a tree of splits, whose leaves have prices
  pub data Tree : Type 0 where
    -- a price for each good
    leaf : List ℕ → Tree
    -- a client, a feature, and a child for each value
    split : ℕ → ℕ → Trees → Tree

  -- the children of a split, in order
  pub data Trees : Type 0 where
    no_trees : Trees
    more : Tree → Trees → Trees

-- how many children there are
abbrev pub tree_count : Trees → ℕ
tree_count no_trees = 0
tree_count (more tree trees) = tree_count trees + 1

-- whether there is a price for each good, and none is above the highest
abbrev pub are_prices : List ℕ → Bool
are_prices prices = length prices == GOODS && list_all (λ price. nat_le price DUAL_PRICE) prices

abbrev mutual
  -- Each split names a client and a feature and has a child for each value, and at most `depth` splits are above each leaf.
  pub is_tree : ℕ → Tree → Bool
  is_tree depth (leaf prices) = are_prices prices
  is_tree zero (split client feature children) = false
  is_tree (suc depth) (split client feature children) = nat_lt client 8 && nat_lt feature 4 && tree_count children == values_of feature && are_trees depth children

  -- the same of each child of a split
  pub are_trees : ℕ → Trees → Bool
  are_trees depth no_trees = true
  are_trees depth (more tree trees) = is_tree depth tree && are_trees depth trees

-- a tree in the form of a certificate
abbrev pub IsCertificate : Tree → Type 0
IsCertificate tree = IsTrue (is_tree CERTIFICATE_DEPTH tree)
