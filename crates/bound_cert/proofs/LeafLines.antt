-- The prices of a leaf's line.
use Rattle.std.proofs.Common.{◌≡◌, ℕ, ◌≤◌, true, List, [], ◌∷◌, length, map, Ok, refl, ◌∙◌, arith, ℤ, unsigned_abs, codes, All}
use Rattle.std.specs.List.{list_all}
use Rattle.std.proofs.lemmas.List.{length-map}
use Rattle.std.proofs.lemmas.List.Elements.{All-nil, All-cons, All-head, All-tail}
use Rattle.text_forms.specs.Rows.{row, within, is_in, all_in, AllBetween, IsBetween}
use Rattle.text_forms.proofs.Columns.{same_columns, columns_within}
use Rattle.packages.specs.Prices.{ArePrices}
use Rattle.bound_cert.specs.NodeLines.{leaf_columns, leaf_of}
use Rattle.bound_cert.specs.declared.node_lines.NodeLine.TheVariants.{Leaf}

-- the columns of prices are all the same
pub each_price : (numbers : List ℤ) → length numbers ≤ 28 → all_in leaf_columns numbers ≡ list_all (λ n. is_in (within 0 14001) n) numbers
each_price numbers few = same_columns 28 (within 0 14001) numbers few

at_most : (most : ℕ) (numbers : List ℕ) → AllBetween 0 most numbers → All (λ n. n ≤ most) numbers
at_most most [] h = All-nil (λ n. n ≤ most)
at_most most (n ∷ ns) h = All-cons (λ n. n ≤ most) n ns (All-head (IsBetween 0 most) n ns h).1 (at_most most ns (All-tail (IsBetween 0 most) n ns h))

-- a row of them has prices
pub row_prices : (numbers : List ℤ) → length numbers ≡ 28 → list_all (λ n. is_in (within 0 14001) n) numbers ≡ true → ArePrices (map unsigned_abs numbers)
row_prices numbers len h = record {
  count = length-map numbers unsigned_abs ∙ len;
  each = at_most 14001 (map unsigned_abs numbers) (columns_within 28 0 14001 numbers (omega (arith, len)) (each_price numbers (omega (arith, len)) ∙ h)).range;
}

pub leaf_is : (line : List ℕ) (numbers : List ℤ) (prices : List ℕ) → Ok numbers ≡ row (codes "leaf") leaf_columns line → prices ≡ map unsigned_abs numbers → Ok (Leaf prices) ≡ leaf_of line
leaf_is line numbers prices read is = rw (← read, is) refl
