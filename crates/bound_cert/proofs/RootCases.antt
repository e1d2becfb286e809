-- Reading a whole text, case by case.
use Rattle.std.proofs.Common.{◌≡◌, ℕ, zero, suc, ◌<◌, ◌≤◌, true, false, ltb, List, length, Result, Ok, Err, arith}
use Rattle.std.proofs.lemmas.Bool.Decides.{nat_tests}
use Rattle.bound_cert.specs.{TEXT_BYTES, BadLine, Remaining, lines_from, due_of, at_line, nothing_left, ◌>>=◌, parts_of, values_of, cert_fault, or_cert_fault, IsCertReading, node_line_of, Tree, split, more, Reader, forest_by, node_by, last_node, node_line_in, tree_in, root_in, cert_of}
use Rattle.bound_cert.specs.declared.faults.CertFault.{CertFault}
use Rattle.bound_cert.specs.declared.faults.CertFault.TheVariants as faults
use Rattle.bound_cert.specs.declared.node_lines.NodeLine.{NodeLine}
use Rattle.bound_cert.specs.declared.node_lines.NodeLine.TheVariants.{Leaf, Split}

pub no_root : (left : Remaining) (fault : CertFault) → tree_in 32 left ≡ Err fault → root_in left ≡ Err fault
unfolding root_in
no_root left fault h = rw h

pub more_lines : (left after : Remaining) (tree : Tree) (bad : BadLine) → tree_in 32 left ≡ Ok (tree, after) → nothing_left after ≡ Err bad → root_in left ≡ Err (cert_fault bad)
unfolding root_in
more_lines left after tree bad h e = rw (h, e)

pub whole_root : (left after : Remaining) (tree : Tree) (u : Unit {0}) → tree_in 32 left ≡ Ok (tree, after) → nothing_left after ≡ Ok u → root_in left ≡ Ok tree
unfolding root_in
whole_root left after tree u h e = rw (h, e)

pub long_text : (text : List ℕ) → TEXT_BYTES < length text → cert_of text ≡ Err faults.TooLong
unfolding cert_of
long_text text long = let test : ltb TEXT_BYTES (length text) ≡ true = grind (arith, nat_tests) in rw test

pub short_text : (text : List ℕ) → length text ≤ TEXT_BYTES → cert_of text ≡ root_in (lines_from false 1 (parts_of 10 text))
unfolding cert_of
short_text text short = let test : ltb TEXT_BYTES (length text) ≡ false = grind (arith, nat_tests) in rw test

-- ---- no line is refused for the text's length

abbrev IsLong : {A : Type 0} → Result A CertFault → Type 0
IsLong read = read ≡ Err faults.TooLong

then_short : {A B : Type 0} (read : Result A CertFault) (f : A → Result B CertFault) → (IsLong read → ⊥) → ((x : A) → IsLong (f x) → ⊥) → IsLong (read >>= f) → ⊥
then_short (Ok x) f first others h = others x h
then_short (Err fault) f first others h = first cc

line_short : {A : Type 0} (read : Result A BadLine) → IsLong (or_cert_fault read) → ⊥
line_short (Ok x) h = cc
line_short (Err bad) h = cc

abbrev given : {A : Type 0} → A → Result A CertFault
given x = Ok x

ok_short : {A : Type 0} (x : A) → IsLong (given x) → ⊥
ok_short x h = cc

node_short : (left : Remaining) → IsLong (node_line_in left) → ⊥
node_short left h =
    then_short (or_cert_fault (due_of left)) (λ line. or_cert_fault (at_line line.0.number (node_line_of line.0.bytes)) >>= λ node. Ok (line.0.number, node, line.1)) (line_short (due_of left))
    (λ line. then_short (or_cert_fault (at_line line.0.number (node_line_of line.0.bytes))) (λ node. Ok (line.0.number, node, line.1)) (line_short (at_line line.0.number (node_line_of line.0.bytes))) (λ node. ok_short (line.0.number, node, line.1))) h

forest_short : (tree_at : Reader Tree) → ((left : Remaining) → IsLong (tree_at left) → ⊥) → (count : ℕ) (left : Remaining) → IsLong (forest_by tree_at count left) → ⊥
forest_short tree_at each zero left h = cc
forest_short tree_at each (suc count) left h =
    then_short (tree_at left) (λ tree. forest_by tree_at count tree.1 >>= λ trees. Ok (more tree.0 trees.0, trees.1)) (each left)
    (λ tree. then_short (forest_by tree_at count tree.1) (λ trees. Ok (more tree.0 trees.0, trees.1)) (forest_short tree_at each count tree.1) (λ trees. ok_short (more tree.0 trees.0, trees.1))) h

node_by_short : (tree_at : Reader Tree) → ((left : Remaining) → IsLong (tree_at left) → ⊥) → (node : NodeLine) (left : Remaining) → IsLong (node_by tree_at node left) → ⊥
node_by_short tree_at each (Leaf prices) left h = cc
node_by_short tree_at each (Split client feature) left h =
    then_short (forest_by tree_at (values_of feature) left) (λ trees. Ok (split client feature trees.0, trees.1)) (forest_short tree_at each (values_of feature) left) (λ trees. ok_short (split client feature trees.0, trees.1)) h

last_short : (number : ℕ) (node : NodeLine) (left : Remaining) → IsLong (last_node number node left) → ⊥
last_short number (Leaf prices) left h = cc
last_short number (Split client feature) left h = cc

tree_short : (level : ℕ) (left : Remaining) → IsLong (tree_in level left) → ⊥
unfolding tree_in
tree_short zero left h = then_short (node_line_in left) (λ node. last_node node.0 node.1 node.2) (node_short left) (λ node. last_short node.0 node.1 node.2) h
tree_short (suc level) left h = then_short (node_line_in left) (λ node. node_by (tree_in level) node.1 node.2) (node_short left) (λ node. node_by_short (tree_in level) (tree_short level) node.1 node.2) h

pub root_short : (left : Remaining) → root_in left ≡ Err faults.TooLong → ⊥
unfolding root_in
root_short left h =
    then_short (tree_in 32 left) (λ tree. or_cert_fault (nothing_left tree.1) >>= λ done. Ok tree.0) (tree_short 32 left)
    (λ tree. then_short (or_cert_fault (nothing_left tree.1)) (λ done. Ok tree.0) (line_short (nothing_left tree.1)) (λ done. ok_short tree.0)) h

-- so what was read of it is not refused either
pub reading_short : {A B : Type 0} (view : A → B) (result : Result A CertFault) (read : Result B CertFault) → (read ≡ Err faults.TooLong → ⊥) → IsCertReading view result read → result ≡ Err faults.TooLong → ⊥
reading_short view (Ok x) read short is h = cc
reading_short view (Err (faults.Line line reason)) read short is h = cc
reading_short view (Err faults.TooLong) read short is h = short is
reading_short view (Err faults.Memory) read short is h = cc
