-- Consecutive lines, as a text's bytes give them.
use Rattle.std.specs.Prelude.{◌≡◌, ℕ, ◌+◌, ◌&&◌, List, [], ◌∷◌, Bool, false, Option, Some}
use Rattle.text_forms.specs.Words.{parts_of}
use Rattle.text_forms.specs.Lines.{Remaining, is_comment, lines_from, block_in}

-- the first line is not left out
abbrev pub IsFirstKept : Bool → List (List ℕ) → Type 0
IsFirstKept skips [] = Unit {0}
IsFirstKept skips (rest ∷ []) = Unit {0}
IsFirstKept skips (line ∷ next ∷ parts) = false ≡ (skips && is_comment line)

-- the next lines of a text whose first line has this number
abbrev pub block_at : Bool → ℕ → ℕ → List ℕ → Option (List ℕ × Remaining)
block_at skips number count text = block_in number count (lines_from skips number (parts_of 10 text)) (lines_from skips number (parts_of 10 text)).lines

-- The text, whose first line has this number, begins with a block of `count` lines. The lines that follow are those of the rest.
abbrev pub BeginsWithBlock : Bool → ℕ → ℕ → List ℕ → List ℕ → List ℕ → Type 0
BeginsWithBlock skips number count text block rest = block_at skips number count text ≡ Some (block, lines_from skips (number + count) (parts_of 10 rest))
