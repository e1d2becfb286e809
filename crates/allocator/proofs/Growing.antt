-- A certificate that grows: a leaf, and a split child by child.
use Rattle.std.proofs.Common.{Vec, Global, ltb, eq-eqb, get_or, ◌-◌, ◌≡◌, ℕ, zero, suc, ◌+◌, ◌<◌, ◌≤◌, true, List, [], ◌∷◌, ◌++◌, length, eqb, leb, refl, subst, ◌∙◌, arith}
use Rattle.std.proofs.lemmas.Bool.{and_parts, and_from}
use Rattle.std.proofs.lemmas.Bool.Decides.{nat_tests}
use Rattle.std.proofs.lemmas.List.Sums.{list_all-from_AllPass}
use Rattle.std.specs.List.{list_all}
use Rattle.allocator.specs.Prelude.{ArePrices, AccountFile, Narrowing, narrowed, values_of, leaf, tree_count, are_prices, is_tree, are_trees, tree_of, forest_of, holds, all_hold}
use Rattle.bound_cert.proofs.Views.{tree_of-Split, tree_count-forest_of}
use Rattle.bound_cert.specs.declared.trees.CertNode.{CertNode, Split}

-- one more child, for the next value
pub all_hold-push : (account : AccountFile) (claim : ℕ) (left : Narrowing) (client feature first value : ℕ) (nodes : List CertNode) (node : CertNode) → all_hold account claim left client feature first (forest_of nodes) ≡ true
    → first + length nodes ≡ value → holds account claim (narrowed left client feature value) (tree_of node) ≡ true → all_hold account claim left client feature first (forest_of (nodes ++ node ∷ [])) ≡ true
all_hold-push account claim left client feature first value [] node h is new =
    let same : value ≡ first = omega (arith, is) in
    and_from (holds account claim (narrowed left client feature first) (tree_of node)) true (subst (λ v. holds account claim (narrowed left client feature v) (tree_of node) ≡ true) same new) refl
all_hold-push account claim left client feature first value (n ∷ ns) node h is new =
    let parts = and_parts (holds account claim (narrowed left client feature first) (tree_of n)) (all_hold account claim left client feature (first + 1) (forest_of ns)) h in
    and_from (holds account claim (narrowed left client feature first) (tree_of n)) (all_hold account claim left client feature (first + 1) (forest_of (ns ++ node ∷ []))) parts.0
    (all_hold-push account claim left client feature (first + 1) value ns node parts.1 (omega (arith, is)) new)

pub are_trees-push : (depth : ℕ) (nodes : List CertNode) (node : CertNode) → are_trees depth (forest_of nodes) ≡ true → is_tree depth (tree_of node) ≡ true → are_trees depth (forest_of (nodes ++ node ∷ [])) ≡ true
are_trees-push depth [] node h new = and_from (is_tree depth (tree_of node)) true new refl
are_trees-push depth (n ∷ ns) node h new =
    let parts = and_parts (is_tree depth (tree_of n)) (are_trees depth (forest_of ns)) h in
    and_from (is_tree depth (tree_of n)) (are_trees depth (forest_of (ns ++ node ∷ []))) parts.0 (are_trees-push depth ns node parts.1 new)

price_passes : (price : ℕ) → price ≤ 14001 → leb price 14001 ≡ true
price_passes price h = grind (arith, nat_tests)

prices_pass : (prices : List ℕ) → ArePrices prices → are_prices prices ≡ true
prices_pass prices h =
    and_from (eqb (length prices) 28) (list_all (λ price. leb price 14001) prices) (eq-eqb _ _ h.count)
    (list_all-from_AllPass (λ price. leb price 14001) prices (λ k d lt. price_passes (get_or prices k d) (h.each k d lt)))

-- a leaf of prices is a certificate by itself
pub is_tree-leaf : (prices : List ℕ) → ArePrices prices → (depth : ℕ) → is_tree depth (leaf prices) ≡ true
is_tree-leaf prices h zero = prices_pass prices h
is_tree-leaf prices h (suc depth) = prices_pass prices h

pub leaf_fits : (depth : ℕ) (node : CertNode) (prices : List ℕ) → tree_of node ≡ leaf prices → is_tree depth (leaf prices) ≡ true → is_tree depth (tree_of node) ≡ true
leaf_fits depth node prices view fits = rw view fits

-- a split at a level
pub holds-split : (account : AccountFile) (claim : ℕ) (left : Narrowing) (client feature : ℕ) (children : Vec CertNode Global) → length children.items ≡ values_of feature → all_hold account claim left client feature 0 (forest_of children.items) ≡ true
    → holds account claim left (tree_of (Split client feature children)) ≡ true
holds-split account claim left client feature children count hold =
    let counted : eqb (tree_count (forest_of children.items)) (values_of feature) ≡ true = eq-eqb _ _ (tree_count-forest_of children.items ∙ count) in
    rw (tree_of-Split client feature children) (and_from (eqb (tree_count (forest_of children.items)) (values_of feature)) (all_hold account claim left client feature 0 (forest_of children.items)) counted hold)

pub is_tree-split : (level client feature : ℕ) (children : Vec CertNode Global) → level < 32 → client < 8 → feature < 4 → length children.items ≡ values_of feature → are_trees (31 - level) (forest_of children.items) ≡ true
    → is_tree (32 - level) (tree_of (Split client feature children)) ≡ true
is_tree-split level client feature children deep client_in feature_in count fit =
    let counted : eqb (tree_count (forest_of children.items)) (values_of feature) ≡ true = eq-eqb _ _ (tree_count-forest_of children.items ∙ count) in
    let deeper : 32 - level ≡ suc (31 - level) = omega arith in
    let client_fits : ltb client 8 ≡ true = grind (arith, nat_tests) in
    let feature_fits : ltb feature 4 ≡ true = grind (arith, nat_tests) in
    rw (tree_of-Split client feature children, deeper, client_fits, feature_fits, counted, fit)
