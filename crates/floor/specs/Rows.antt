-- Rows of a table.
use Rattle.std.specs.Prelude.{List, [], ◌∷◌, ◌++◌}

module _ {A : Type 0} where
  -- the rows, each with one element more: the first row with the first element, and so on
  abbrev pub with_each : List (List A) → List A → List (List A)
  with_each [] xs = []
  with_each (row ∷ rows) [] = row ∷ rows
  with_each (row ∷ rows) (x ∷ xs) = (row ++ x ∷ []) ∷ with_each rows xs
