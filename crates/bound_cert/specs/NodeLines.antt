-- The line of a node.
use Rattle.std.specs.Prelude.{ℕ, List, [], ◌∷◌, Bool, false, pos, Result, Ok, map, replicate, codes, slice_index_or, unsigned_abs, if◌then◌else◌, bytes_eq}
use Rattle.tac_base.specs.declared.limits.TheConstants.{DUAL_PRICE, GOODS}
use Rattle.text_forms.specs.declared.rows.Column.{Column}
use Rattle.text_forms.specs.Rows.{within, row, row_text}
use Rattle.text_forms.specs.Steps.{◌>>=◌}
use Rattle.text_forms.specs.Words.{words_of}
use Rattle.text_forms.specs.declared.lines.Reason.{Reason}
use Rattle.bound_cert.specs.declared.node_lines.NodeLine.{NodeLine}
use Rattle.bound_cert.specs.declared.node_lines.NodeLine.TheVariants.{Leaf, Split}

abbrev pub leaf_columns : List Column
leaf_columns = replicate GOODS (within 0 DUAL_PRICE)

abbrev pub split_columns : List Column
split_columns = within 0 7 ∷ within 0 3 ∷ []

-- whether the first word is that of a leaf
abbrev pub is_leaf : List (List ℕ) → Bool
is_leaf [] = false
is_leaf (first ∷ words) = bytes_eq first (codes "leaf")

-- leaf Y0 Y1 .. Y27
abbrev pub leaf_of : List ℕ → Result NodeLine Reason
leaf_of line = do
  prices ← row (codes "leaf") leaf_columns line
  Ok (Leaf (map unsigned_abs prices))

-- split C F
abbrev pub split_of : List ℕ → Result NodeLine Reason
split_of line = do
  numbers ← row (codes "split") split_columns line
  Ok (Split (unsigned_abs (slice_index_or numbers 0 (pos 0))) (unsigned_abs (slice_index_or numbers 1 (pos 0))))

-- the content of a line, or the first reason that applies
abbrev pub node_line_of : List ℕ → Result NodeLine Reason
node_line_of line = if is_leaf (words_of line) then leaf_of line else split_of line

-- ---- their one spelling

-- the line of a leaf: `leaf`, and a price for each good
abbrev pub leaf_text : List ℕ → List ℕ
leaf_text prices = row_text (codes "leaf") (map pos prices)

-- the line of a split: `split`, its client and its feature
abbrev pub split_text : ℕ → ℕ → List ℕ
split_text client feature = row_text (codes "split") (pos client ∷ pos feature ∷ [])
