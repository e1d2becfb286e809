-- Certificates are determined by their lines, whatever follows them.
use Rattle.std.proofs.Common.{◌≡◌, ℕ, zero, suc, ◌^◌, ◌<◌, ◌≤◌, true, eqb, leb, List, [], ◌∷◌, ◌++◌, append_assoc, length, map, drop, get_or, refl, sym, ap, ◌∙◌, arith, ℤ, pos, codes, unsigned_abs}
use Rattle.std.specs.Fmt.{signed_decimal}
use Rattle.std.specs.List.{list_all, AllByRecursion}
use Rattle.std.proofs.lemmas.Bool.Decides.{nat_tests}
use Rattle.std.proofs.lemmas.Grind.{flat_map-append}
use Rattle.tac_base.proofs.NumeralLaws.{both_true}
use Rattle.log_text.specs.{text_of, row_text, tree_lines, forest_lines, Tree, leaf, split, Trees, no_trees, more, tree_count, are_prices, is_tree, are_trees, IsSigned}
use Rattle.text_forms.proofs.Columns.{abs_pos}
use Rattle.packages.specs.Features.{values_of}
use Rattle.bound_cert.specs.NodeLines.{leaf_text, split_text}
use Rattle.bound_cert.proofs.TreesAgain.{split_parts}
use Rattle.log_text.proofs.Cuts.{IsWord, row_same, pieces_cons}
use Rattle.log_text.proofs.Trades.{known_word}
use Rattle.log_text.proofs.Histories.{signed_are, dollars_same}

-- ---- lines

abbrev ended : List ℕ → List ℕ
ended line = line ++ 10 ∷ []

pub text_cons : (line : List ℕ) (lines : List (List ℕ)) (rest : List ℕ) → text_of (line ∷ lines) ++ rest ≡ ended line ++ (text_of lines ++ rest)
text_cons line lines rest = pieces_cons ended line lines rest

pub text_both : (xs ys : List (List ℕ)) (rest : List ℕ) → text_of (xs ++ ys) ++ rest ≡ text_of xs ++ (text_of ys ++ rest)
text_both xs ys rest = ap (λ (text : List ℕ). text ++ rest) (flat_map-append ended xs ys) ∙ append_assoc (text_of xs) (text_of ys) rest

-- a line of a keyword and numbers has exactly these numbers
pub numbers_same : (keyword : List ℕ) (ms ns : List ℤ) (us vs : List ℕ) → IsWord keyword → AllByRecursion IsSigned ms → AllByRecursion IsSigned ns →
    ended (row_text keyword ms) ++ us ≡ ended (row_text keyword ns) ++ vs → (ms ≡ ns) × (us ≡ vs)
numbers_same keyword ms ns us vs word h k e =
    let cut = row_same keyword keyword (map signed_decimal ms) (map signed_decimal ns) us vs (word, signed_are ms h) (word, signed_are ns k) e in
    (dollars_same ms ns h k (ap (drop 1) cut.0), cut.1)

-- ---- nodes

abbrev word_leaf : List ℕ
word_leaf = codes "leaf"

abbrev word_split : List ℕ
word_split = codes "split"

is_word_leaf : IsWord word_leaf
is_word_leaf = known_word (codes "leaf") refl refl

is_word_split : IsWord word_split
is_word_split = known_word (codes "split") refl refl

prices_signed : (prices : List ℕ) → list_all (λ price. leb price 14001) prices ≡ true → AllByRecursion IsSigned (map pos prices)
prices_signed [] h = tt
prices_signed (price ∷ prices) h =
    let both = both_true (leb price 14001) (list_all (λ p. leb p 14001) prices) h in
    let low : price ≤ 14001 = grind (arith, nat_tests) in
    let small : price < 2 ^ 64 = omega (arith, low) in
    (small, prices_signed prices both.1)

prices_are : (prices : List ℕ) → are_prices prices ≡ true → AllByRecursion IsSigned (map pos prices)
prices_are prices h = prices_signed prices (both_true (eqb (length prices) 28) (list_all (λ p. leb p 14001) prices) h).1

-- the numbers of a split have one word each
split_signed : (client feature : ℕ) → client < 8 → feature < 4 → IsSigned (pos client) × IsSigned (pos feature)
split_signed client feature low low' =
    let small : client < 2 ^ 64 = omega (arith, low) in
    let small' : feature < 2 ^ 64 = omega (arith, low') in
    (small, small')

words_differ : (ms ns : List (List ℕ)) → word_leaf ∷ ms ≡ word_split ∷ ns → ⊥
words_differ ms ns e =
    let first : 108 ≡ 115 = ap (λ (ws : List (List ℕ)). get_or (get_or ws 0 []) 0 0) e in
    omega (arith, first)

leaf_not_split : (prices : List ℕ) (client feature : ℕ) (us vs : List ℕ) → AllByRecursion IsSigned (map pos prices) → IsSigned (pos client) → IsSigned (pos feature) →
    ended (leaf_text prices) ++ us ≡ ended (split_text client feature) ++ vs → ⊥
leaf_not_split prices client feature us vs h k l e =
    words_differ _ _ (row_same word_leaf word_split (map signed_decimal (map pos prices)) (map signed_decimal (pos client ∷ pos feature ∷ [])) us vs
    (is_word_leaf, signed_are (map pos prices) h) (is_word_split, signed_are (pos client ∷ pos feature ∷ []) (k, (l, tt))) e).0

first_is : (a b c d : ℕ) → pos a ∷ pos b ∷ [] ≡ pos c ∷ pos d ∷ [] → (a ≡ c) × (b ≡ d)
first_is a b c d e = (ap (λ (zs : List ℤ). unsigned_abs (get_or zs 0 (pos 0))) e, ap (λ (zs : List ℤ). unsigned_abs (get_or zs 1 (pos 0))) e)

-- ---- trees

mutual
  pub tree_same : (depth : ℕ) (t u : Tree) (us vs : List ℕ) → is_tree depth t ≡ true → is_tree depth u ≡ true → text_of (tree_lines t) ++ us ≡ text_of (tree_lines u) ++ vs → (t ≡ u) × (us ≡ vs)
  tree_same depth (leaf prices) (leaf others) us vs h k e =
      let cut = numbers_same word_leaf (map pos prices) (map pos others) us vs is_word_leaf (prices_are prices h) (prices_are others k)
      (sym (text_cons (leaf_text prices) [] us) ∙ e ∙ text_cons (leaf_text others) [] vs) in
      let same : prices ≡ others = sym (abs_pos prices) ∙ ap (map unsigned_abs) cut.0 ∙ abs_pos others in
      (ap (λ (ps : List ℕ). leaf ps) same, cut.1)
  tree_same zero (leaf prices) (split client feature children) us vs h k e = absurd (no k)
    where
      no : is_tree zero (split client feature children) ≡ true → ⊥
      no f = cc
  tree_same (suc depth) (leaf prices) (split client feature children) us vs h k e =
      let is = split_parts depth client feature children k in
      let signed = split_signed client feature is.in_client is.in_feature in
      absurd (leaf_not_split prices client feature us (text_of (forest_lines children) ++ vs) (prices_are prices h) signed.0 signed.1
      (sym (text_cons (leaf_text prices) [] us) ∙ e ∙ text_cons (split_text client feature) (forest_lines children) vs))
  tree_same zero (split client feature children) u us vs h k e = absurd cc
  tree_same (suc depth) (split client feature children) (leaf prices) us vs h k e =
      let is = split_parts depth client feature children h in
      let signed = split_signed client feature is.in_client is.in_feature in
      absurd (leaf_not_split prices client feature vs (text_of (forest_lines children) ++ us) (prices_are prices k) signed.0 signed.1
      (sym (text_cons (leaf_text prices) [] vs) ∙ sym e ∙ text_cons (split_text client feature) (forest_lines children) us))
  tree_same (suc depth) (split client feature children) (split client' feature' children') us vs h k e =
      let is = split_parts depth client feature children h in let is' = split_parts depth client' feature' children' k in
      let signed = split_signed client feature is.in_client is.in_feature in let signed' = split_signed client' feature' is'.in_client is'.in_feature in
      let cut = numbers_same word_split (pos client ∷ pos feature ∷ []) (pos client' ∷ pos feature' ∷ []) (text_of (forest_lines children) ++ us) (text_of (forest_lines children') ++ vs) is_word_split
      (signed.0, (signed.1, tt)) (signed'.0, (signed'.1, tt))
      (sym (text_cons (split_text client feature) (forest_lines children) us) ∙ e ∙ text_cons (split_text client' feature') (forest_lines children') vs) in
      let both = first_is client feature client' feature' cut.0 in
      let rest = forest_same depth children children' us vs is.fit is'.fit (is.count ∙ ap values_of both.1 ∙ sym is'.count) cut.1 in
      ((λ i. split (both.0 i) (both.1 i) (rest.0 i)), rest.1)

  forest_same : (depth : ℕ) (ts us : Trees) (rest more_rest : List ℕ) → are_trees depth ts ≡ true → are_trees depth us ≡ true → tree_count ts ≡ tree_count us →
      text_of (forest_lines ts) ++ rest ≡ text_of (forest_lines us) ++ more_rest → (ts ≡ us) × (rest ≡ more_rest)
  forest_same depth no_trees no_trees rest more_rest h k n e = (refl, e)
  forest_same depth no_trees (more u us) rest more_rest h k n e = absurd (omega (arith, n))
  forest_same depth (more t ts) no_trees rest more_rest h k n e = absurd (omega (arith, n))
  forest_same depth (more t ts) (more u us) rest more_rest h k n e =
      let here = both_true (is_tree depth t) (are_trees depth ts) h in let here' = both_true (is_tree depth u) (are_trees depth us) k in
      let first = tree_same depth t u (text_of (forest_lines ts) ++ rest) (text_of (forest_lines us) ++ more_rest) here.0 here'.0
      (sym (text_both (tree_lines t) (forest_lines ts) rest) ∙ e ∙ text_both (tree_lines u) (forest_lines us) more_rest) in
      let others = forest_same depth ts us rest more_rest here.1 here'.1 (omega (arith, n)) first.1 in
      ((λ i. more (first.0 i) (others.0 i)), others.1)
