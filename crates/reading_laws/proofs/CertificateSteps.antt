-- The reader of certificates goes from line to line.
use Rattle.std.proofs.Common.{◌≡◌, ℕ, zero, suc, ◌⊎◌, inl, inr, List, [], ◌∷◌, Result, Ok, Err, refl, subst, codes, replicate}
use Rattle.reading_laws.specs.Prelude.{numeral, Reason, NumberedLine, Remaining, due_of, at_line, nothing_left, reason_number, row, ◌>>=◌, CertFault, forest_by, node_by, tree_in, root_in, Tree, leaf, split, no_trees, more}
use Rattle.text_forms.proofs.PrintedLines.{lacks_from}
use Rattle.packages.specs.Features.{values_of}
use Rattle.bound_cert.specs.declared.faults.CertFault.TheVariants.{Line, TooLong, Memory}
use Rattle.bound_cert.specs.Faults.{or_cert_fault}
use Rattle.bound_cert.specs.NodeLines.{node_line_of}
use Rattle.bound_cert.proofs.NodeCases.{SaidNode, said_node}
use Rattle.reading_laws.proofs.Steady.{Step, onto, any_line, Never, Steady, ReadsLine, steady_line, steady_then, steady_done, Closes, closes_then, closes_end}

-- a fault is at a line
abbrev pub IsFaultAt : CertFault → ℕ → Type 0
IsFaultAt (Line line reason) n = line ≡ n
IsFaultAt TooLong n = ⊥
IsFaultAt Memory n = ⊥

abbrev GoesOn : {A : Type 0} → Step A CertFault → Type 0
GoesOn step = Steady IsFaultAt any_line Never step

-- ---- one line

-- the least leaf
abbrev zeros : List ℕ
zeros = replicate 28 0

abbrev zero_leaf : List ℕ
zero_leaf = codes "leaf 0 0 0 0 0 0 0 0 0 0 0 0 0 0 0 0 0 0 0 0 0 0 0 0 0 0 0 0"

zero_leaf_read : (node : SaidNode) × (node_line_of zero_leaf ≡ Ok node) × ((level number : ℕ) (other : Remaining) → tree_in level (onto (record { number = number; bytes = zero_leaf } ∷ []) other) ≡ Ok (leaf zeros, other))
unfolding tree_in row numeral
zero_leaf_read = (_, refl, λ level number other. read level number other) where
  read : (level number : ℕ) (other : Remaining) → tree_in level (onto (record { number = number; bytes = zero_leaf } ∷ []) other) ≡ Ok (leaf zeros, other)
  read zero number other = refl
  read (suc level) number other = refl

-- the next node, without its number
abbrev node_in : Step SaidNode CertFault
node_in left = or_cert_fault (due_of left) >>= λ line. or_cert_fault (at_line line.0.number (node_line_of line.0.bytes)) >>= λ node. Ok (node, line.1)

node_reads : ReadsLine IsFaultAt any_line Never node_in
node_reads = record {
  none = λ last ended. (Line last 7, refl, refl);
  some = λ line. by_form line (node_line_of line.bytes) refl;
  text = zero_leaf;
  value = zero_leaf_read.0;
  plain = record { lacks = lacks_from 10 zero_leaf refl; kept = refl };
  calm = refl;
  example = λ number other. rw zero_leaf_read.1 refl;
} where
  by_form : (line : NumberedLine) (r : Result SaidNode Reason) → node_line_of line.bytes ≡ r
      → ((value : SaidNode) × ((other : Remaining) → node_in (onto (line ∷ []) other) ≡ Ok (value, other))) ⊎ ((fault : CertFault) × IsFaultAt fault line.number × ((other : Remaining) → node_in (onto (line ∷ []) other) ≡ Err fault))
  by_form line (Ok node) e = inl (node, λ other. rw e refl)
  by_form line (Err reason) e = inr (Line line.number (reason_number reason), refl, λ other. rw e refl)

-- a leaf where no split may stand
lowest_reads : ReadsLine IsFaultAt any_line Never (tree_in 0)
unfolding tree_in
lowest_reads = record {
  none = λ last ended. (Line last 7, refl, refl);
  some = λ line. by_form line (node_line_of line.bytes) refl;
  text = zero_leaf;
  value = leaf zeros;
  plain = record { lacks = lacks_from 10 zero_leaf refl; kept = refl };
  calm = refl;
  example = zero_leaf_read.2 0;
} where
  by_form : (line : NumberedLine) (r : Result SaidNode Reason) → node_line_of line.bytes ≡ r
      → ((value : Tree) × ((other : Remaining) → tree_in 0 (onto (line ∷ []) other) ≡ Ok (value, other))) ⊎ ((fault : CertFault) × IsFaultAt fault line.number × ((other : Remaining) → tree_in 0 (onto (line ∷ []) other) ≡ Err fault))
  by_form line (Ok node) e =
      said_node (λ node. node_line_of line.bytes ≡ Ok node → ((value : Tree) × ((other : Remaining) → tree_in 0 (onto (line ∷ []) other) ≡ Ok (value, other))) ⊎ ((fault : CertFault) × IsFaultAt fault line.number × ((other : Remaining) → tree_in 0 (onto (line ∷ []) other) ≡ Err fault)))
      (λ prices h. inl (leaf prices, λ other. rw h refl)) (λ client feature h. inr (Line line.number 8, refl, λ other. rw h refl)) node e
  by_form line (Err reason) e = inr (Line line.number (reason_number reason), refl, λ other. rw e refl)

-- ---- trees

forest_goes_on : (tree_at : Step Tree CertFault) → GoesOn tree_at → (count : ℕ) → GoesOn (forest_by tree_at count)
forest_goes_on tree_at each zero = steady_done IsFaultAt any_line Never no_trees
forest_goes_on tree_at each (suc count) =
    steady_then IsFaultAt any_line Never tree_at (λ tree left. forest_by tree_at count left >>= λ trees. Ok (more tree trees.0, trees.1)) each
    (λ tree. steady_then IsFaultAt any_line Never (forest_by tree_at count) (λ trees left. Ok (more tree trees, left)) (forest_goes_on tree_at each count) (λ trees. steady_done IsFaultAt any_line Never (more tree trees)))

node_goes_on : (tree_at : Step Tree CertFault) → GoesOn tree_at → (node : SaidNode) → GoesOn (node_by tree_at node)
node_goes_on tree_at each node = said_node (λ said. GoesOn (node_by tree_at said)) (λ prices. steady_done IsFaultAt any_line Never (leaf prices)) split_goes_on node where
  split_goes_on : (client feature : ℕ) → GoesOn (λ left. forest_by tree_at (values_of feature) left >>= λ trees. Ok (split client feature trees.0, trees.1))
  split_goes_on client feature =
      steady_then IsFaultAt any_line Never (forest_by tree_at (values_of feature)) (λ trees left. Ok (split client feature trees, left)) (forest_goes_on tree_at each (values_of feature)) (λ trees. steady_done IsFaultAt any_line Never (split client feature trees))

-- a node with the lines after it, and with its number too
abbrev before_lines : Remaining → Result SaidNode CertFault → Result (SaidNode × Remaining) CertFault
before_lines after said = said >>= λ node. Ok (node, after)

abbrev with_number : ℕ → Remaining → Result SaidNode CertFault → Result (ℕ × SaidNode × Remaining) CertFault
with_number number after said = said >>= λ node. Ok (number, node, after)

abbrev said_by : NumberedLine → Result SaidNode CertFault
said_by line = or_cert_fault (at_line line.number (node_line_of line.bytes))

-- the number of a node's line is of no use where a split may stand
unnumbered : (level : ℕ) (left : Remaining) → (node_in left >>= λ node. node_by (tree_in level) node.0 node.1) ≡ tree_in (suc level) left
unfolding tree_in
unnumbered level left = by_line (or_cert_fault (due_of left)) where
  by_node : (number : ℕ) (after : Remaining) (r : Result SaidNode CertFault) → (before_lines after r >>= λ node. node_by (tree_in level) node.0 node.1) ≡ (with_number number after r >>= λ node. node_by (tree_in level) node.1 node.2)
  by_node number after (Ok node) = refl
  by_node number after (Err fault) = refl

  by_line : (r : Result (NumberedLine × Remaining) CertFault)
      → ((r >>= λ line. before_lines line.1 (said_by line.0)) >>= λ node. node_by (tree_in level) node.0 node.1) ≡ ((r >>= λ line. with_number line.0.number line.1 (said_by line.0)) >>= λ node. node_by (tree_in level) node.1 node.2)
  by_line (Ok line) = by_node line.0.number line.1 (said_by line.0)
  by_line (Err fault) = refl

tree_goes_on : (level : ℕ) → GoesOn (tree_in level)
tree_goes_on zero = steady_line IsFaultAt any_line Never (tree_in 0) lowest_reads
tree_goes_on (suc level) =
    subst (λ (step : Step Tree CertFault). GoesOn step) (λ i left. unnumbered level left i)
    (steady_then IsFaultAt any_line Never node_in (λ node left. node_by (tree_in level) node left) (steady_line IsFaultAt any_line Never node_in node_reads) (λ node. node_goes_on (tree_in level) (tree_goes_on level) node))

-- ---- a whole text

pub root_closes : Closes IsFaultAt any_line Never root_in
unfolding root_in
root_closes =
    closes_then IsFaultAt any_line Never (tree_in 32) (λ tree left. or_cert_fault (nothing_left left) >>= λ done. Ok tree) (tree_goes_on 32)
    (λ tree. closes_end IsFaultAt any_line Never (λ left. or_cert_fault (nothing_left left) >>= λ done. Ok tree) (record {
      value = tree;
      done = λ last. refl;
      cut = λ last. (Line last 7, refl, refl);
      some = λ line. (Line line.number 7, refl, λ other. refl);
    }))
