-- When the boards that a pass recorded are boards of a history.
use Rattle.std.specs.Prelude.{◌≡◌, ℕ, ◌≤◌, List, take}
use mathlib.Core.Option.{some}
use lib.ListN.{get_elem?}
use Rattle.tac_base.specs.declared.calls.Board.{Board}

module _ {E : Type 0} where
  -- Each board stated a count of at most `seen`, and is the board of the history's first `count` entries.
  abbrev pub AreNotes : (List E → Board) → List E → ℕ → List (ℕ × Board) → Type 0
  AreNotes board history seen notes = (k : ℕ) (n : ℕ × Board) → get_elem? notes k ≡ some n → (n.0 ≤ seen) × (n.1 ≡ board (take n.0 history))
