-- The certificate in a text, read line by line, or the first bad line with its first reason.
use Rattle.std.specs.Prelude.{ℕ, zero, suc, List, length, Result, Ok, Err, false, nat_lt, if◌then◌else◌}
use Rattle.bound_cert.specs.Prelude.{CERTIFICATE_DEPTH, TEXT_BYTES, Remaining, lines_from, due_of, at_line, nothing_left, ◌>>=◌, parts_of, values_of}
use Rattle.bound_cert.specs.declared.faults.CertFault.{CertFault}
use Rattle.bound_cert.specs.declared.faults.CertFault.TheVariants.{Line, TooLong}
use Rattle.bound_cert.specs.declared.node_lines.NodeLine.{NodeLine}
use Rattle.bound_cert.specs.declared.node_lines.NodeLine.TheVariants.{Leaf, Split}
use Rattle.bound_cert.specs.Faults.{or_cert_fault}
use Rattle.bound_cert.specs.NodeLines.{node_line_of}
use Rattle.bound_cert.specs.Trees.{Tree, leaf, split, Trees, no_trees, more}

-- what is read from the lines that are left, and the lines after it
abbrev pub Reader : Type 0 → Type 0
Reader A = Remaining → Result (A × Remaining) CertFault

-- this many consecutive trees
abbrev pub forest_by : Reader Tree → ℕ → Reader Trees
forest_by tree_at zero left = Ok (no_trees, left)
forest_by tree_at (suc count) left = do
  tree ← tree_at left
  trees ← forest_by tree_at count tree.1
  Ok (more tree.0 trees.0, trees.1)

-- a node, and below a split its children, each read by `tree_at`
abbrev pub node_by : Reader Tree → NodeLine → Reader Tree
node_by tree_at (Leaf prices) left = Ok (leaf prices, left)
node_by tree_at (Split client feature) left = do
  trees ← forest_by tree_at (values_of feature) left
  Ok (split client feature trees.0, trees.1)

-- a node that must be a leaf
abbrev pub last_node : ℕ → NodeLine → Reader Tree
last_node number (Leaf prices) left = Ok (leaf prices, left)
last_node number (Split client feature) left = Err (Line number 8)

-- the number of the next line, its content, and the lines after it
abbrev pub node_line_in : Remaining → Result (ℕ × NodeLine × Remaining) CertFault
node_line_in left = do
  line ← or_cert_fault (due_of left)
  node ← or_cert_fault (at_line line.0.number (node_line_of line.0.bytes))
  Ok (line.0.number, node, line.1)

-- a tree with at most this many levels of splits
unfoldable pub tree_in : ℕ → Reader Tree
tree_in zero left = node_line_in left >>= λ node. last_node node.0 node.1 node.2
tree_in (suc level) left = node_line_in left >>= λ node. node_by (tree_in level) node.1 node.2

-- a tree with at most as many levels as a certificate can have, after which no line is left
unfoldable pub root_in : Remaining → Result Tree CertFault
root_in left = do
  tree ← tree_in CERTIFICATE_DEPTH left
  done ← or_cert_fault (nothing_left tree.1)
  Ok tree.0

-- the certificate in a text, or why the text is refused
unfoldable pub cert_of : List ℕ → Result Tree CertFault
cert_of text = if nat_lt TEXT_BYTES (length text) then Err TooLong else root_in (lines_from false 1 (parts_of 10 text))
