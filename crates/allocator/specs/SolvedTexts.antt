-- The text of a best allocation with its certificate.
use Rattle.std.specs.Prelude.{ℕ, List, [], ◌∷◌, ◌++◌, pos, length, codes, decimal, slice_index}
use Rattle.allocator.specs.Prelude.{text_of, Package, tree_lines, Tree}
use Rattle.text_forms.specs.Rows.{row_text}
use Rattle.text_forms.specs.Steps.{lines_of_parts, one_line}
use Rattle.packages.specs.declared.travel_packages.Package.TheVariants.{None, Trip}

-- total N
abbrev pub total_text : ℕ → List ℕ
total_text total = codes "total " ++ decimal total

-- package K none, or package K H AA AD N1 N2 N3
abbrev pub package_text : ℕ → Package → List ℕ
package_text client None = codes "package " ++ decimal client ++ codes " none"
package_text client (Trip hotel arrive depart nights) =
    row_text (codes "package") (pos client ∷ pos hotel ∷ pos arrive ∷ pos depart ∷ pos (slice_index nights 0) ∷ pos (slice_index nights 1) ∷ pos (slice_index nights 2) ∷ [])

-- cert L, where L is the number of the certificate's lines
abbrev pub count_text : Tree → List ℕ
count_text tree = codes "cert " ++ decimal (length (tree_lines tree))

abbrev pub solved_lines : ℕ → List Package → Tree → List (List ℕ)
solved_lines total allocation tree =
    total_text total ∷ []
    ++ (lines_of_parts (one_line package_text) 0 allocation
    ++ (count_text tree ∷ tree_lines tree
    ++ codes "end" ∷ []))

-- the whole text
abbrev pub solved_text : ℕ → List Package → Tree → List ℕ
solved_text total allocation tree = text_of (solved_lines total allocation tree)
