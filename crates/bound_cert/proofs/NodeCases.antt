-- Reading a node, case by case.
use Rattle.std.proofs.Common.{◌≡◌, ℕ, zero, suc, ◌+◌, ◌-◌, ◌<◌, List, [], ◌∷◌, ◌++◌, Result, Ok, Err, refl, sym, ap, subst, arith, IsErrAnd}
use Rattle.bound_cert.specs.{Remaining, ◌>>=◌, values_of, IsCertRefusal, IsCertReading, tree_of, forest_of, Reader, forest_by, node_line_in, tree_in}
use Rattle.bound_cert.specs.declared.faults.CertFault.{CertFault}
use Rattle.bound_cert.specs.declared.faults.CertFault.TheVariants as faults
use Rattle.bound_cert.specs.declared.node_lines.NodeLine.{NodeLine}
use Rattle.bound_cert.specs.declared.node_lines.NodeLine.TheVariants.{Leaf, Split}
use Rattle.bound_cert.specs.declared.trees.CertNode.{CertNode}
use Rattle.bound_cert.specs.Trees.{Tree, leaf, split, Trees, no_trees, more}

-- What a line of a node says, for the crates above: a leaf or a split.
abbrev pub SaidNode : Type 0
SaidNode = NodeLine

pub said_node : (P : NodeLine → Type 0) → ((prices : List ℕ) → P (Leaf prices)) → ((client feature : ℕ) → P (Split client feature)) → (node : NodeLine) → P node
said_node P of_leaf of_split (Leaf prices) = of_leaf prices
said_node P of_leaf of_split (Split client feature) = of_split client feature

-- the line of a node could not be read
pub no_node : (level : ℕ) (left : Remaining) (fault : CertFault) → node_line_in left ≡ Err fault → tree_in level left ≡ Err fault
unfolding tree_in
no_node zero left fault h = rw h
no_node (suc level) left fault h = rw h

pub leaf_node : (level number : ℕ) (left after : Remaining) (prices : List ℕ) → node_line_in left ≡ Ok (number, Leaf prices, after) → tree_in level left ≡ Ok (leaf prices, after)
unfolding tree_in
leaf_node zero number left after prices h = rw h
leaf_node (suc level) number left after prices h = rw h

pub deep_node : (number client feature : ℕ) (left after : Remaining) → node_line_in left ≡ Ok (number, Split client feature, after) → tree_in 0 left ≡ Err (faults.Line number 8)
unfolding tree_in
deep_node number client feature left after h = rw h

pub split_node : (level number client feature : ℕ) (left after : Remaining) (read : Result (Trees × Remaining) CertFault) → 0 < level → node_line_in left ≡ Ok (number, Split client feature, after)
    → forest_by (tree_in (level - 1)) (values_of feature) after ≡ read → tree_in level left ≡ (read >>= λ trees. Ok (split client feature trees.0, trees.1))
unfolding tree_in
split_node zero number client feature left after read some h each = absurd (omega arith)
split_node (suc level) number client feature left after read some h each =
    let same : suc level - 1 ≡ level = omega arith in
    let each' : forest_by (tree_in level) (values_of feature) after ≡ read = rw same at each in
    rw (h, each')

-- a refusal remains one if memory may be refused too
pub refusal_is : {A : Type 0} (fault : CertFault) (read : Result A CertFault) → read ≡ Err fault → IsCertRefusal fault read
refusal_is (faults.Line line reason) read h = h
refusal_is faults.TooLong read h = h
refusal_is faults.Memory read h = tt

-- a refusal that is passed on
pub handed_on : {A B : Type 0} (view : A → B) (given : Result A CertFault) (fault : CertFault) (read : Result B CertFault) → IsErrAnd given (λ f. f ≡ fault) → IsCertRefusal fault read → IsCertReading view given read
handed_on view (Ok x) fault read h refusal = absurd h
handed_on view (Err f) fault read h refusal = subst (λ (e : CertFault). IsCertRefusal e read) (sym h) refusal

-- if one reading is refused, so is the other
pub refused_through : {X Y : Type 0} (fault : CertFault) (a : Result X CertFault) (b : Result Y CertFault) → ((e : CertFault) → a ≡ Err e → b ≡ Err e) → IsCertRefusal fault a → IsCertRefusal fault b
refused_through (faults.Line line reason) a b h f = h (faults.Line line reason) f
refused_through faults.TooLong a b h f = h faults.TooLong f
refused_through faults.Memory a b h f = tt

-- trees that were read before others
abbrev pub onto : List CertNode → Trees → Trees
onto [] trees = trees
onto (node ∷ nodes) trees = more (tree_of node) (onto nodes trees)

-- the nodes that were read, and those that follow
abbrev pub join : List CertNode → Trees × Remaining → Result (Trees × Remaining) CertFault
join nodes read = Ok (onto nodes read.0, read.1)

onto-push : (nodes : List CertNode) (node : CertNode) (trees : Trees) → onto (nodes ++ node ∷ []) trees ≡ onto nodes (more (tree_of node) trees)
onto-push [] node trees = refl
onto-push (n ∷ ns) node trees = ap (more (tree_of n)) (onto-push ns node trees)

onto-none : (nodes : List CertNode) → onto nodes no_trees ≡ forest_of nodes
onto-none [] = refl
onto-none (n ∷ ns) = ap (more (tree_of n)) (onto-none ns)

join-push : (nodes : List CertNode) (node : CertNode) (read : Result (Trees × Remaining) CertFault) → ((read >>= (λ trees. Ok (more (tree_of node) trees.0, trees.1))) >>= join nodes) ≡ (read >>= join (nodes ++ node ∷ []))
join-push nodes node (Err fault) = refl
join-push nodes node (Ok trees) = ap (λ (ts : Trees). Ok (ts, trees.1)) (sym (onto-push nodes node trees.0))

module _ (tree_at : Reader Tree) where
  -- one more node was read
  pub forest_step : (n m : ℕ) (left after : Remaining) (nodes : List CertNode) (node : CertNode) → n ≡ m + 1 → tree_at left ≡ Ok (tree_of node, after)
      → (forest_by tree_at m after >>= join (nodes ++ node ∷ [])) ≡ (forest_by tree_at n left >>= join nodes)
  forest_step zero m left after nodes node is h = absurd (omega arith)
  forest_step (suc n) m left after nodes node is h =
      let same : m ≡ n = omega arith in
      rw (h, same) (sym (join-push nodes node (forest_by tree_at n after)))

  -- a node could not be read
  pub forest_bad : (n : ℕ) (left : Remaining) (nodes : List CertNode) (fault : CertFault) → 0 < n → tree_at left ≡ Err fault → (forest_by tree_at n left >>= join nodes) ≡ Err fault
  forest_bad zero left nodes fault some h = absurd (omega arith)
  forest_bad (suc n) left nodes fault some h = rw h

  pub forest_done : (n : ℕ) (left : Remaining) (nodes : List CertNode) → n ≡ 0 → (forest_by tree_at n left >>= join nodes) ≡ Ok (forest_of nodes, left)
  forest_done zero left nodes is = ap (λ (trees : Trees). Ok (trees, left)) (onto-none nodes)
  forest_done (suc n) left nodes is = absurd (omega arith)
