-- The line of an endowment.
use Rattle.std.specs.Prelude.{◌≡◌, ℕ, ◌==◌, if◌then◌else◌, List, ◌∷◌, ℤ, pos, unsigned_abs, length, Result, Ok, Err, map, replicate, codes, slice_index_or, drop}
use Rattle.text_forms.specs.declared.lines.Reason.{Reason}
use Rattle.text_forms.specs.declared.lines.Reason.TheVariants.{NotDue}
use Rattle.text_forms.specs.declared.rows.Column.{Column}
use Rattle.text_forms.specs.Rows.{within, row, row_text, AllBetween}
use Rattle.text_forms.specs.Steps.{◌>>=◌}

-- how many of each ticket an agent has at the start
pub record IsEndowment (endow : List ℕ) : Type 0 where
  pub count : length endow ≡ 12
  pub range : AllBetween 0 16 endow

-- the agent, and how many tickets of each of goods 16 to 27 it has, 0 to 16
abbrev pub endow_columns : List Column
endow_columns = within 0 4294967295 ∷ replicate 12 (within 0 16)

-- the endowment in a row with this agent
abbrev pub endow_from : ℕ → List ℤ → Result (List ℕ) Reason
endow_from agent numbers = if unsigned_abs (slice_index_or numbers 0 (pos 0)) == agent then Ok (map unsigned_abs (drop 1 numbers)) else Err NotDue

-- the endowment in a line with this agent, or the first reason that applies
unfoldable pub endow_of : ℕ → List ℕ → Result (List ℕ) Reason
endow_of agent line = row (codes "endow") endow_columns line >>= endow_from agent

-- the line of an endowment
abbrev pub endow_text : ℕ → List ℕ → List ℕ
endow_text agent endow = row_text (codes "endow") (pos agent ∷ map pos endow)
