-- What is printed of a certificate is read as the certificate again.
use Rattle.std.proofs.Common.{◌≡◌, ℕ, zero, suc, ◌+◌, ◌<◌, ◌≤◌, ◌&&◌, true, false, eqb, leb, ltb, List, [], ◌∷◌, ◌++◌, append-nil, append_assoc, length-append, Ok, length, map, drop, get_or, refl, sym, ap, subst, ◌∙◌, arith, lit<, ℤ, pos, codes, unsigned_abs, eqb-true}
use Rattle.std.specs.Fmt.{signed_decimal}
use Rattle.std.specs.List.{list_all, AllByRecursion}
use Rattle.std.proofs.lemmas.Bool.Decides.{nat_tests}
use Rattle.std.proofs.lemmas.List.{length-map}
use Rattle.std.proofs.lemmas.List.Concat.{flat_map-cons}
use Rattle.std.proofs.lemmas.List.Elements.{All-nil, All-cons}
use Rattle.tac_base.proofs.NumeralLaws.{both_true}
use Rattle.tac_base.proofs.Signed.{Lacks}
use Rattle.bound_cert.specs.{TEXT_BYTES, Column, Remaining, lines_from, text_of, all_in, row_text, AllBetween, IsBetween, words_of, parts_of, values_of, leaf_columns, split_columns, node_line_of, leaf_text, split_text, tree_lines, forest_lines, cert_text, forest_by, tree_in, root_in, cert_of}
use Rattle.text_forms.proofs.Columns.{in_within, within_columns, abs_pos}
use Rattle.text_forms.proofs.Joins.{joined_parts, parts_more}
use Rattle.text_forms.proofs.RowLaws.{is_column, numbers_lack, row_again}
use Rattle.text_forms.proofs.PrintedLines.{lacks_from, join_lacks, ahead, at_end}
use Rattle.bound_cert.specs.declared.node_lines.NodeLine.TheVariants.{Leaf, Split}
use Rattle.bound_cert.specs.Trees.{Tree, leaf, split, Trees, no_trees, more, tree_count, are_prices, is_tree, are_trees, IsCertificate}
use Rattle.bound_cert.proofs.RootCases.{short_text}

-- ---- one line

prices_between : (prices : List ℕ) → list_all (λ price. leb price 14001) prices ≡ true → AllBetween 0 14001 prices
prices_between [] h = All-nil (IsBetween 0 14001)
prices_between (price ∷ prices) h =
    let both = both_true (leb price 14001) (list_all (λ p. leb p 14001) prices) h in
    All-cons (IsBetween 0 14001) price prices (omega arith, grind (arith, nat_tests)) (prices_between prices both.1)

-- the numbers of a row are in their columns
record AreIn (columns : List Column) (numbers : List ℤ) : Type 0 where
  count : length numbers ≡ length columns
  range : all_in columns numbers ≡ true

leaf_in : (prices : List ℕ) → are_prices prices ≡ true → AreIn leaf_columns (map pos prices)
leaf_in prices h =
    let both = both_true (eqb (length prices) 28) (list_all (λ p. leb p 14001) prices) h in
    let count = eqb-true (length prices) 28 both.0 in
    record { count = length-map prices pos ∙ count; range = within_columns 28 0 14001 prices (omega (arith, count)) (prices_between prices both.1) }

split_in : (client feature : ℕ) → client < 8 → feature < 4 → AreIn split_columns (pos client ∷ pos feature ∷ [])
split_in client feature in_client in_feature = record { count = refl; range = rw (in_within 0 7 client (omega arith) (omega arith), in_within 0 3 feature (omega arith) (omega arith)) refl }

row_words : (keyword : List ℕ) (columns : List Column) (numbers : List ℤ) → Lacks 32 keyword → list_all is_column columns ≡ true → AreIn columns numbers → words_of (row_text keyword numbers) ≡ keyword ∷ map signed_decimal numbers
row_words keyword columns numbers lacks c are = joined_parts 32 keyword (map signed_decimal numbers) lacks (numbers_lack columns numbers c are.count are.range 32 (lit< tt))

row_lacks : (keyword : List ℕ) (columns : List Column) (numbers : List ℤ) → Lacks 10 keyword → list_all is_column columns ≡ true → AreIn columns numbers → Lacks 10 (row_text keyword numbers)
row_lacks keyword columns numbers lacks c are = join_lacks 10 (keyword ∷ map signed_decimal numbers) refl (lacks, numbers_lack columns numbers c are.count are.range 10 (lit< tt))

leaf_again : (prices : List ℕ) → are_prices prices ≡ true → node_line_of (leaf_text prices) ≡ Ok (Leaf prices)
leaf_again prices h =
    let are = leaf_in prices h in
    let words = row_words (codes "leaf") leaf_columns (map pos prices) (lacks_from 32 (codes "leaf") refl) refl are in
    let read = row_again (codes "leaf") leaf_columns (map pos prices) (lacks_from 32 (codes "leaf") refl) refl are.count are.range in
    rw (words, read, abs_pos prices) refl

split_read : (numbers : List ℤ) → AreIn split_columns numbers → node_line_of (row_text (codes "split") numbers) ≡ Ok (Split (unsigned_abs (get_or numbers 0 (pos 0))) (unsigned_abs (get_or numbers 1 (pos 0))))
split_read numbers are =
    let words = row_words (codes "split") split_columns numbers (lacks_from 32 (codes "split") refl) refl are in
    let read = row_again (codes "split") split_columns numbers (lacks_from 32 (codes "split") refl) refl are.count are.range in
    rw (words, read) refl

split_again : (client feature : ℕ) → client < 8 → feature < 4 → node_line_of (split_text client feature) ≡ Ok (Split client feature)
split_again client feature in_client in_feature = split_read (pos client ∷ pos feature ∷ []) (split_in client feature in_client in_feature)

-- ---- trees

-- the tests that a split passes
pub record IsSplit (depth client feature : ℕ) (trees : Trees) : Type 0 where
  pub in_client : client < 8
  pub in_feature : feature < 4
  pub count : tree_count trees ≡ values_of feature
  pub fit : are_trees depth trees ≡ true

pub split_parts : (depth client feature : ℕ) (trees : Trees) → is_tree (suc depth) (split client feature trees) ≡ true → IsSplit depth client feature trees
split_parts depth client feature trees h =
    let last = both_true (ltb client 8 && ltb feature 4 && eqb (tree_count trees) (values_of feature)) (are_trees depth trees) h in
    let middle = both_true (ltb client 8 && ltb feature 4) (eqb (tree_count trees) (values_of feature)) last.0 in
    let first = both_true (ltb client 8) (ltb feature 4) middle.0 in
    record { in_client = grind (arith, nat_tests, first.0); in_feature = grind (arith, nat_tests, first.1); count = eqb-true _ _ middle.1; fit = last.1 }

mutual
  unfolding tree_in

  tree_again : (depth : ℕ) (tree : Tree) → is_tree depth tree ≡ true → (numbers : List ℕ) (others : List (List ℕ)) (after : Remaining) → (m : List ℕ) × (tree_in depth (ahead numbers (tree_lines tree ++ others) after) ≡ Ok (tree, ahead m others after))
  tree_again zero (leaf prices) h numbers others after = (drop 1 numbers, rw (leaf_again prices h) refl)
  tree_again (suc depth) (leaf prices) h numbers others after = (drop 1 numbers, rw (leaf_again prices h) refl)
  tree_again zero (split client feature trees) h numbers others after = absurd cc
  tree_again (suc depth) (split client feature trees) h numbers others after =
      let is = split_parts depth client feature trees h in
      let below = forest_again depth trees is.fit (drop 1 numbers) others after in
      let counted = rw is.count at below.1 in
      (below.0, rw (split_again client feature is.in_client is.in_feature, counted) refl)

  forest_again : (depth : ℕ) (trees : Trees) → are_trees depth trees ≡ true → (numbers : List ℕ) (others : List (List ℕ)) (after : Remaining) → (m : List ℕ) × (forest_by (tree_in depth) (tree_count trees) (ahead numbers (forest_lines trees ++ others) after) ≡ Ok (trees, ahead m others after))
  forest_again depth no_trees h numbers others after = (numbers, refl)
  forest_again depth (more tree trees) h numbers others after =
      let both = both_true (is_tree depth tree) (are_trees depth trees) h in
      let first = tree_again depth tree both.0 numbers (forest_lines trees ++ others) after in
      let rest = forest_again depth trees both.1 first.0 others after in
      let regrouped : (tree_lines tree ++ forest_lines trees) ++ others ≡ tree_lines tree ++ (forest_lines trees ++ others) = append_assoc (tree_lines tree) (forest_lines trees) others in
      let count : tree_count trees + 1 ≡ suc (tree_count trees) = omega arith in
      (rest.0, rw (regrouped, count, first.1, rest.1) refl)

-- ---- a whole text

pub lines_lack-append : (xs ys : List (List ℕ)) → AllByRecursion (Lacks 10) xs → AllByRecursion (Lacks 10) ys → AllByRecursion (Lacks 10) (xs ++ ys)
lines_lack-append [] ys h k = k
lines_lack-append (x ∷ xs) ys h k = (h.0, lines_lack-append xs ys h.1 k)

-- no line of a certificate has a line end in it
mutual
  pub tree_lines_lack : (depth : ℕ) (tree : Tree) → is_tree depth tree ≡ true → AllByRecursion (Lacks 10) (tree_lines tree)
  tree_lines_lack depth (leaf prices) h = (row_lacks (codes "leaf") leaf_columns (map pos prices) (lacks_from 10 (codes "leaf") refl) refl (leaf_in prices h), tt)
  tree_lines_lack zero (split client feature trees) h = absurd cc
  tree_lines_lack (suc depth) (split client feature trees) h =
      let is = split_parts depth client feature trees h in
      (row_lacks (codes "split") split_columns (pos client ∷ pos feature ∷ []) (lacks_from 10 (codes "split") refl) refl (split_in client feature is.in_client is.in_feature), forest_lines_lack depth trees is.fit)

  forest_lines_lack : (depth : ℕ) (trees : Trees) → are_trees depth trees ≡ true → AllByRecursion (Lacks 10) (forest_lines trees)
  forest_lines_lack depth no_trees h = tt
  forest_lines_lack depth (more tree trees) h =
      let both = both_true (is_tree depth tree) (are_trees depth trees) h in
      lines_lack-append (tree_lines tree) (forest_lines trees) (tree_lines_lack depth tree both.0) (forest_lines_lack depth trees both.1)

pub parts_again : (lines : List (List ℕ)) → AllByRecursion (Lacks 10) lines → parts_of 10 (text_of lines) ≡ lines ++ [] ∷ []
parts_again [] h = refl
parts_again (line ∷ lines) h =
    let made : text_of (line ∷ lines) ≡ line ++ 10 ∷ text_of lines = flat_map-cons (λ l. l ++ 10 ∷ []) line lines ∙ append_assoc line (10 ∷ []) (text_of lines) in
    ap (parts_of 10) made ∙ parts_more 10 line (text_of lines) h.0 ∙ ap (λ (ls : List (List ℕ)). line ∷ ls) (parts_again lines h.1)

-- the text of a certificate has as many line ends as lines
pub spelling_parts : (tree : Tree) → IsCertificate tree → length (parts_of 10 (cert_text tree)) ≡ length (tree_lines tree) + 1
spelling_parts tree is = ap length (parts_again (tree_lines tree) (tree_lines_lack 32 tree is)) ∙ length-append (tree_lines tree) ([] ∷ [])

lines_ahead : (lines : List (List ℕ)) (number : ℕ) → (m : ℕ) × (numbers : List ℕ) × (lines_from false number (lines ++ [] ∷ []) ≡ ahead numbers lines (at_end m))
unfolding at_end
lines_ahead [] number = (number, [], refl)
lines_ahead (line ∷ []) number = (number + 1, number ∷ [], refl)
lines_ahead (line ∷ next ∷ lines) number =
    let rest = lines_ahead (next ∷ lines) (number + 1) in
    (rest.0, number ∷ rest.1, rw rest.2 refl)

root_again : (tree : Tree) (numbers : List ℕ) (m : ℕ) → is_tree 32 tree ≡ true → root_in (ahead numbers (tree_lines tree) (at_end m)) ≡ Ok tree
unfolding root_in at_end
root_again tree numbers m h =
    let read = tree_again 32 tree h numbers [] (at_end m) in
    let whole : tree_lines tree ≡ tree_lines tree ++ [] = sym (append-nil (tree_lines tree)) in
    ap (λ (lines : List (List ℕ)). root_in (ahead numbers lines (at_end m))) whole ∙ rw read.1 refl

-- however long its text is
pub spelling_again : (tree : Tree) → IsCertificate tree → root_in (lines_from false 1 (parts_of 10 (cert_text tree))) ≡ Ok tree
spelling_again tree is =
    let cut = lines_ahead (tree_lines tree) 1 in
    ap (λ (parts : List (List ℕ)). root_in (lines_from false 1 parts)) (parts_again (tree_lines tree) (tree_lines_lack 32 tree is)) ∙ ap root_in cut.2 ∙ root_again tree cut.1 cut.0 is

pub cert_again : (tree : Tree) → IsCertificate tree → length (cert_text tree) ≤ TEXT_BYTES → cert_of (cert_text tree) ≡ Ok tree
cert_again tree is short = short_text (cert_text tree) short ∙ spelling_again tree is

pub text_again : (text : List ℕ) (tree : Tree) → IsCertificate tree → length text ≤ TEXT_BYTES → text ≡ cert_text tree → cert_of text ≡ Ok tree
text_again text tree is short same = ap cert_of same ∙ cert_again tree is (subst (λ (t : List ℕ). length t ≤ TEXT_BYTES) same short)
