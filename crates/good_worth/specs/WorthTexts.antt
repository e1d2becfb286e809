-- The text of the worths of all goods.
use Rattle.std.specs.Prelude.{ℕ, zero, suc, List, [], ◌∷◌, ◌++◌, pos, codes, slice_index_or}
use Rattle.tac_base.specs.declared.limits.TheConstants.{GOODS}
use Rattle.text_forms.specs.Lines.{text_of}
use Rattle.text_forms.specs.Rows.{row_text}
use Rattle.allocator.specs.SolvedTexts.{solved_lines}
use Rattle.good_worth.specs.Worths.{Solution, Valuation, no_solution, up_at, down_at}

-- good G UP DOWN
abbrev pub good_text : Valuation → ℕ → List ℕ
good_text v good = row_text (codes "good") (pos good ∷ pos (up_at v good) ∷ pos (down_at v good) ∷ [])

abbrev pub good_lines : Valuation → ℕ → List (List ℕ)
good_lines v good = good_text v good ∷ []

-- the lines of the goods below a number, in order
unfoldable pub lines_below : (ℕ → List (List ℕ)) → ℕ → List (List ℕ)
lines_below lines zero = []
lines_below lines (suc good) = lines_below lines good ++ lines good

-- the lines of a solution
abbrev pub solution_lines : Solution → List (List ℕ)
solution_lines s = solved_lines s.total s.allocation s.tree

-- more G and less G, each before its solution
abbrev pub changed_lines : Valuation → ℕ → List (List ℕ)
changed_lines v good =
    row_text (codes "more") (pos good ∷ []) ∷ solution_lines (slice_index_or v.more good no_solution)
    ++ row_text (codes "less") (pos good ∷ []) ∷ solution_lines (slice_index_or v.less good no_solution)

-- worth N, and the lines of the goods
abbrev pub head_lines : Valuation → List (List ℕ)
head_lines v = row_text (codes "worth") (pos v.base.total ∷ []) ∷ lines_below (good_lines v) GOODS

-- base, and the account's own solution
abbrev pub base_lines : Valuation → List (List ℕ)
base_lines v = codes "base" ∷ solution_lines v.base

abbrev pub worth_lines : Valuation → List (List ℕ)
worth_lines v = head_lines v ++ (base_lines v ++ (lines_below (changed_lines v) GOODS ++ codes "end" ∷ []))

-- the whole text
abbrev pub worth_text : Valuation → List ℕ
worth_text v = text_of (worth_lines v)
