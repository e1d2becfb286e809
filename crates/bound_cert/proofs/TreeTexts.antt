-- What is read of a certificate's text is printed as it was, and is a certificate.
use Rattle.std.proofs.Common.{◌≡◌, ℕ, zero, suc, ◌+◌, ◌<◌, ◌&&◌, Bool, true, false, cond, eqb, leb, ltb, List, [], ◌∷◌, ◌++◌, Result, Ok, Err, length, map, get_or, refl, sym, ap, subst, ◌∙◌, append_assoc, arith, ℤ, pos, unsigned_abs, codes}
use Rattle.std.specs.List.{list_all, join_with_byte}
use Rattle.std.proofs.lemmas.Bool.Decides.{nat_tests}
use Rattle.std.proofs.lemmas.List.{length-map}
use Rattle.std.proofs.lemmas.List.Concat.{flat_map-cons}
use Rattle.std.proofs.lemmas.List.Elements.{All-head, All-tail}
use Rattle.std.proofs.lemmas.List.Splits.{join_with_byte-slice_split, length-slice_split}
use Rattle.tac_base.proofs.NumeralLaws.{both_true}
use Rattle.bound_cert.specs.{TEXT_BYTES, BadLine, NumberedLine, Remaining, AreLinesLeft, lines_from, due_of, at_line, nothing_left, text_of, within, is_in, all_in, row, row_text, AllBetween, IsBetween, ◌>>=◌, read_by, words_of, parts_of, values_of, or_cert_fault, leaf_columns, split_columns, is_leaf, leaf_of, split_of, node_line_of, leaf_text, split_text, tree_lines, forest_lines, cert_text, Reader, forest_by, node_by, last_node, node_line_in, tree_in, root_in, cert_of}
use Rattle.text_forms.proofs.Columns.{is_within, columns_within}
use Rattle.text_forms.proofs.RowLaws.{row_is}
use Rattle.text_forms.proofs.Reading.{Took, took_then, took_line, took_all, ok_is, bind_ok, read_took}
use Rattle.bound_cert.specs.declared.faults.CertFault.{CertFault}
use Rattle.bound_cert.specs.declared.faults.CertFault.TheVariants.{TooLong}
use Rattle.bound_cert.specs.declared.node_lines.NodeLine.{NodeLine}
use Rattle.bound_cert.specs.declared.node_lines.NodeLine.TheVariants.{Leaf, Split}
use Rattle.bound_cert.specs.Trees.{Tree, leaf, split, Trees, no_trees, more, tree_count, are_prices, is_tree, are_trees, IsCertificate}

-- ---- one line

prices_pass : (prices : List ℕ) → AllBetween 0 14001 prices → list_all (λ price. leb price 14001) prices ≡ true
prices_pass [] h = refl
prices_pass (price ∷ prices) h =
    let high = (All-head (IsBetween 0 14001) price prices h).1 in
    let passes : leb price 14001 ≡ true = grind (arith, nat_tests) in
    rw passes (prices_pass prices (All-tail (IsBetween 0 14001) price prices h))

-- a line is the one text of what it says, which lies in its ranges
abbrev IsNodeLine : List ℕ → NodeLine → Type 0
IsNodeLine line (Leaf prices) = (line ≡ leaf_text prices) × (are_prices prices ≡ true)
IsNodeLine line (Split client feature) = (line ≡ split_text client feature) × (client < 8) × (feature < 4)

leaf_kept : (line : List ℕ) (node : NodeLine) → leaf_of line ≡ Ok node → IsNodeLine line node
leaf_kept line node e =
    let a = bind_ok (row (codes "leaf") leaf_columns line) (λ numbers. Ok (Leaf (map unsigned_abs numbers))) node e in
    let numbers = a.0 in
    let r = row_is (codes "leaf") leaf_columns line numbers a.1 in
    let w = columns_within 28 0 14001 numbers (omega (arith, r.count)) r.range in
    let count : eqb (length (map unsigned_abs numbers)) 28 ≡ true = rw (length-map numbers unsigned_abs, r.count) refl in
    let is : Leaf (map unsigned_abs numbers) ≡ node = cc (a.2) in
    subst (IsNodeLine line) is (r.text ∙ ap (row_text (codes "leaf")) w.same, rw count (prices_pass (map unsigned_abs numbers) w.range))

split_numbers : (line : List ℕ) (numbers : List ℤ) → length numbers ≡ 2 → all_in split_columns numbers ≡ true → line ≡ row_text (codes "split") numbers
    → IsNodeLine line (Split (unsigned_abs (get_or numbers 0 (pos 0))) (unsigned_abs (get_or numbers 1 (pos 0))))
split_numbers line [] len h text = absurd cc
split_numbers line (a ∷ []) len h text = absurd (omega (arith, len))
split_numbers line (a ∷ b ∷ []) len h text =
    let both = both_true (is_in (within 0 7) a) (all_in (within 0 3 ∷ []) (b ∷ [])) h in
    let last = both_true (is_in (within 0 3) b) true both.1 in
    let client = is_within 0 7 a both.0 in
    let feature = is_within 0 3 b last.0 in
    (text ∙ ap (λ (z : ℤ). row_text (codes "split") (z ∷ b ∷ [])) client.same ∙ ap (λ (z : ℤ). row_text (codes "split") (pos (unsigned_abs a) ∷ z ∷ [])) feature.same, omega (arith, client.most), omega (arith, feature.most))
split_numbers line (a ∷ b ∷ d ∷ numbers) len h text = absurd (omega (arith, len))

split_kept : (line : List ℕ) (node : NodeLine) → split_of line ≡ Ok node → IsNodeLine line node
split_kept line node e =
    let a = bind_ok (row (codes "split") split_columns line) (λ numbers. Ok (Split (unsigned_abs (get_or numbers 0 (pos 0))) (unsigned_abs (get_or numbers 1 (pos 0))))) node e in
    let r = row_is (codes "split") split_columns line a.0 a.1 in
    let is : Split (unsigned_abs (get_or a.0 0 (pos 0))) (unsigned_abs (get_or a.0 1 (pos 0))) ≡ node = cc (a.2) in
    subst (IsNodeLine line) is (split_numbers line a.0 r.count r.range r.text)

node_by_test : (b : Bool) (line : List ℕ) (node : NodeLine) → cond b (leaf_of line) (split_of line) ≡ Ok node → IsNodeLine line node
node_by_test true line node e = leaf_kept line node e
node_by_test false line node e = split_kept line node e

node_kept : (line : List ℕ) (node : NodeLine) → node_line_of line ≡ Ok node → IsNodeLine line node
node_kept line node e = node_by_test (is_leaf (words_of line)) line node e

-- ---- a line of a text

refused_ok : {A : Type 0} (r : Result A BadLine) (x : A) → or_cert_fault r ≡ Ok x → r ≡ Ok x
refused_ok (Ok y) x e = cc
refused_ok (Err bad) x e = absurd cc

read_ok : (left : Remaining) (line : NumberedLine × Remaining) (node : NodeLine) → due_of left ≡ Ok line → at_line line.0.number (node_line_of line.0.bytes) ≡ Ok node → read_by node_line_of left ≡ Ok (node, line.1)
read_ok left line node due said = rw (due, said) refl

-- a line that was taken, and what it says
record TookNode (left : Remaining) (node : NodeLine) (after : Remaining) : Type 0 where
  line : List ℕ
  took : Took left (line ∷ []) after
  is : IsNodeLine line node

node_took : (left : Remaining) (x : ℕ × NodeLine × Remaining) → node_line_in left ≡ Ok x → TookNode left x.1 x.2
node_took left x e =
    let a = bind_ok (or_cert_fault (due_of left)) (λ line. or_cert_fault (at_line line.0.number (node_line_of line.0.bytes)) >>= λ node. Ok (line.0.number, node, line.1)) x e in
    let b = bind_ok (or_cert_fault (at_line a.0.0.number (node_line_of a.0.0.bytes))) (λ node. Ok (a.0.0.number, node, a.0.1)) x a.2 in
    let due = refused_ok (due_of left) a.0 a.1 in
    let said = refused_ok (at_line a.0.0.number (node_line_of a.0.0.bytes)) b.0 b.1 in
    let read : read_by node_line_of left ≡ Ok (b.0, a.0.1) = read_ok left a.0 b.0 due said in
    let r = read_took node_line_of left (b.0, a.0.1) read in
    subst (λ (y : ℕ × NodeLine × Remaining). TookNode left y.1 y.2) (ok_is {E = CertFault} (a.0.0.number, b.0, a.0.1) x b.2) (record { line = r.0; took = r.1; is = node_kept r.0 b.0 r.2 })

-- ---- trees

-- a tree whose lines were taken, of at most this many levels
record TookTree (depth : ℕ) (left : Remaining) (x : Tree × Remaining) : Type 0 where
  took : Took left (tree_lines x.0) x.1
  fits : is_tree depth x.0 ≡ true

-- this many of them
record TookTrees (depth count : ℕ) (left : Remaining) (x : Trees × Remaining) : Type 0 where
  took : Took left (forest_lines x.0) x.1
  fit : are_trees depth x.0 ≡ true
  count_is : tree_count x.0 ≡ count

forest_took : (tree_at : Reader Tree) (depth : ℕ) → ((left : Remaining) (x : Tree × Remaining) → tree_at left ≡ Ok x → TookTree depth left x)
    → (count : ℕ) (left : Remaining) (x : Trees × Remaining) → forest_by tree_at count left ≡ Ok x → TookTrees depth count left x
forest_took tree_at depth each zero left x e =
    subst (TookTrees depth 0 left) (ok_is {E = CertFault} (no_trees, left) x e) (record { took = record { parts = refl; same = refl }; fit = refl; count_is = refl })
forest_took tree_at depth each (suc count) left x e =
    let a = bind_ok (tree_at left) (λ tree. forest_by tree_at count tree.1 >>= λ trees. Ok (more tree.0 trees.0, trees.1)) x e in
    let b = bind_ok (forest_by tree_at count a.0.1) (λ trees. Ok (more a.0.0 trees.0, trees.1)) x a.2 in
    let one = each left a.0 a.1 in
    let others = forest_took tree_at depth each count a.0.1 b.0 b.1 in
    subst (TookTrees depth (suc count) left) (ok_is {E = CertFault} (more a.0.0 b.0.0, b.0.1) x b.2) (record {
      took = took_then left (tree_lines a.0.0) a.0.1 (forest_lines b.0.0) b.0.1 one.took others.took;
      fit = rw one.fits others.fit;
      count_is = omega (arith, others.count_is);
    })

split_fits : (client feature count values : ℕ) (fit : Bool) → client < 8 → feature < 4 → count ≡ values → fit ≡ true → (ltb client 8 && ltb feature 4 && eqb count values && fit) ≡ true
split_fits client feature count values fit in_client in_feature same fits = grind (arith, nat_tests)

-- a node of at most this many levels, if the nodes below it are such trees
node_by_took : (depth : ℕ) → ((left : Remaining) (x : Tree × Remaining) → tree_in depth left ≡ Ok x → TookTree depth left x)
    → (left : Remaining) (node : NodeLine) (after : Remaining) (x : Tree × Remaining) → TookNode left node after → node_by (tree_in depth) node after ≡ Ok x → TookTree (suc depth) left x
node_by_took depth each left (Leaf prices) after x line e =
    subst (TookTree (suc depth) left) (ok_is {E = CertFault} (leaf prices, after) x e) (record { took = took_line left after line.line (leaf_text prices) line.is.0 line.took; fits = line.is.1 })
node_by_took depth each left (Split client feature) after x line e =
    let a = bind_ok (forest_by (tree_in depth) (values_of feature) after) (λ trees. Ok (split client feature trees.0, trees.1)) x e in
    let below = forest_took (tree_in depth) depth each (values_of feature) after a.0 a.1 in
    let first = took_line left after line.line (split_text client feature) line.is.0 line.took in
    subst (TookTree (suc depth) left) (ok_is {E = CertFault} (split client feature a.0.0, a.0.1) x a.2) (record {
      took = took_then left (split_text client feature ∷ []) after (forest_lines a.0.0) a.0.1 first below.took;
      fits = split_fits client feature (tree_count a.0.0) (values_of feature) (are_trees depth a.0.0) line.is.1 line.is.2 below.count_is below.fit;
    })

last_took : (number : ℕ) (left : Remaining) (node : NodeLine) (after : Remaining) (x : Tree × Remaining) → TookNode left node after → last_node number node after ≡ Ok x → TookTree 0 left x
last_took number left (Leaf prices) after x line e =
    subst (TookTree 0 left) (ok_is {E = CertFault} (leaf prices, after) x e) (record { took = took_line left after line.line (leaf_text prices) line.is.0 line.took; fits = line.is.1 })
last_took number left (Split client feature) after x line e = absurd cc

tree_took : (depth : ℕ) (left : Remaining) (x : Tree × Remaining) → tree_in depth left ≡ Ok x → TookTree depth left x
unfolding tree_in
tree_took zero left x e =
    let a = bind_ok (node_line_in left) (λ node. last_node node.0 node.1 node.2) x e in
    last_took a.0.0 left a.0.1 a.0.2 x (node_took left a.0 a.1) a.2
tree_took (suc depth) left x e =
    let a = bind_ok (node_line_in left) (λ node. node_by (tree_in depth) node.1 node.2) x e in
    node_by_took depth (tree_took depth) left a.0.1 a.0.2 x (node_took left a.0 a.1) a.2

-- ---- a whole text

-- the lines of a tree are all lines
record IsWhole (left : Remaining) (tree : Tree) : Type 0 where
  lines : AreLinesLeft (tree_lines tree) left
  fits : is_tree 32 tree ≡ true

root_took : (left : Remaining) (tree : Tree) → root_in left ≡ Ok tree → IsWhole left tree
unfolding root_in
root_took left tree e =
    let a = bind_ok (tree_in 32 left) (λ t. or_cert_fault (nothing_left t.1) >>= λ done. Ok t.0) tree e in
    let b = bind_ok (or_cert_fault (nothing_left a.0.1)) (λ done. Ok a.0.0) tree a.2 in
    let t = tree_took 32 left a.0 a.1 in
    subst (IsWhole left) (ok_is {E = CertFault} a.0.0 tree b.2) (record { lines = took_all left a.0.1 (tree_lines a.0.0) b.0 t.took (refused_ok (nothing_left a.0.1) b.0 b.1); fits = t.fits })

-- a text whose last line has its end is its lines
joined : (number : ℕ) (parts : List (List ℕ)) → 0 < length parts → (lines_from false number parts).ended ≡ true → join_with_byte 10 parts ≡ text_of (map (λ line. line.bytes) (lines_from false number parts).lines)
joined number [] some ended = absurd (omega arith)
joined number ([] ∷ []) some ended = refl
joined number ((b ∷ bytes) ∷ []) some ended = absurd cc
joined number (line ∷ next ∷ parts) some ended =
    let rest = lines_from false (number + 1) (next ∷ parts) in
    let more = joined (number + 1) (next ∷ parts) (omega arith) ended in
    ap (λ (t : List ℕ). line ++ 10 ∷ t) more ∙ sym (append_assoc line (10 ∷ []) (text_of (map (λ l. l.bytes) rest.lines)))
    ∙ sym (flat_map-cons (λ l. l ++ 10 ∷ []) line (map (λ l. l.bytes) rest.lines))

text_is : (lines : List (List ℕ)) (text : List ℕ) → AreLinesLeft lines (lines_from false 1 (parts_of 10 text)) → text ≡ text_of lines
text_is lines text are =
    let some : 0 < length (parts_of 10 text) = omega (arith, length-slice_split (λ b. eqb b 10) text) in
    sym (join_with_byte-slice_split 10 text) ∙ joined 1 (parts_of 10 text) some are.ended ∙ ap text_of are.same

-- what was read is printed as it was, and is a certificate
pub record IsPrinted (text : List ℕ) (tree : Tree) : Type 0 where
  pub same : text ≡ cert_text tree
  pub fits : IsCertificate tree

by_length : (b : Bool) (left : Remaining) (tree : Tree) → cond b (Err TooLong) (root_in left) ≡ Ok tree → root_in left ≡ Ok tree
by_length true left tree e = absurd cc
by_length false left tree e = e

-- however long the text is
pub root_printed : (text : List ℕ) (tree : Tree) → root_in (lines_from false 1 (parts_of 10 text)) ≡ Ok tree → IsPrinted text tree
root_printed text tree e =
    let whole = root_took (lines_from false 1 (parts_of 10 text)) tree e in
    record { same = text_is (tree_lines tree) text whole.lines; fits = whole.fits }

pub cert_printed : (text : List ℕ) (tree : Tree) → cert_of text ≡ Ok tree → IsPrinted text tree
unfolding cert_of
cert_printed text tree e = root_printed text tree (by_length (ltb TEXT_BYTES (length text)) (lines_from false 1 (parts_of 10 text)) tree e)
