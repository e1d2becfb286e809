-- The line of the order in which the hotels close.
use Rattle.std.specs.Prelude.{◌≡◌, ℕ, ◌==◌, ◌&&◌, not, if◌then◌else◌, List, [], ◌∷◌, Bool, true, ℤ, pos, unsigned_abs, length, Result, Ok, Err, IsTrue, map, replicate, codes}
use Rattle.std.specs.List.{list_any}
use Rattle.text_forms.specs.declared.lines.Reason.{Reason}
use Rattle.text_forms.specs.declared.lines.Reason.TheVariants.{Repeated}
use Rattle.text_forms.specs.declared.rows.Column.{Column}
use Rattle.text_forms.specs.Rows.{within, row, row_text, AllBetween}
use Rattle.text_forms.specs.Steps.{◌>>=◌}

-- no number occurs twice
abbrev pub is_distinct : List ℕ → Bool
is_distinct [] = true
is_distinct (n ∷ ns) = not (list_any (λ m. m == n) ns) && is_distinct ns

-- the eight hotel nights in some order
pub record IsOrder (order : List ℕ) : Type 0 where
  pub count : length order ≡ 8
  pub range : AllBetween 8 15 order
  pub apart : IsTrue (is_distinct order)

-- eight numbers of hotel nights
abbrev pub order_columns : List Column
order_columns = replicate 8 (within 8 15)

-- the closing order in a row: no night occurs twice
abbrev pub order_from : List ℤ → Result (List ℕ) Reason
order_from numbers = if is_distinct (map unsigned_abs numbers) then Ok (map unsigned_abs numbers) else Err Repeated

-- the closing order in a line, or the first reason that applies
unfoldable pub order_of : List ℕ → Result (List ℕ) Reason
order_of line = row (codes "close") order_columns line >>= order_from

-- the line of a closing order
abbrev pub order_text : List ℕ → List ℕ
order_text order = row_text (codes "close") (map pos order)
