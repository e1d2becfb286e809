-- The first bad line of a text, defined by the texts of its kind.
use Rattle.std.specs.Prelude.{◌≡◌, ℕ, ◌-◌, List, [], ◌∷◌, ◌++◌, take}
use Rattle.text_forms.specs.Words.{parts_of}

-- the lines of a text that was cut at its line ends, each with its line end; what follows the last line end counts as a line, even if empty
abbrev pub with_ends : List (List ℕ) → List (List ℕ)
with_ends [] = []
with_ends (rest ∷ []) = rest ∷ []
with_ends (line ∷ next ∷ parts) = (line ++ 10 ∷ []) ∷ with_ends (next ∷ parts)

abbrev pub lines_with_ends : List ℕ → List (List ℕ)
lines_with_ends text = with_ends (parts_of 10 text)

-- the first lines, this many, are those of a text of the kind
abbrev pub BeginsText : (List ℕ → Type 0) → List ℕ → ℕ → Type 0
BeginsText IsText text count = (other : List ℕ) × IsText other × (take count (lines_with_ends other) ≡ take count (lines_with_ends text))

-- the lines before this one begin a text of the kind, and with this one they begin none
pub record IsFirstBadLine (IsText : List ℕ → Type 0) (text : List ℕ) (line : ℕ) : Type 0 where
  pub before : BeginsText IsText text (line - 1)
  pub bad : BeginsText IsText text line → ⊥
