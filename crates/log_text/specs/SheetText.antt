-- The text of a game's sheet: the second part of its log.
use Rattle.std.specs.Prelude.{ℕ, List, [], ◌∷◌, ◌++◌, pos, length, codes, slice_index}
use Rattle.text_forms.specs.Lines.{text_of}
use Rattle.text_forms.specs.Rows.{row_text}
use Rattle.text_forms.specs.Steps.{lines_of_parts, one_line}
use Rattle.line_protocol.specs.Heads.{Head}
use Rattle.packages.specs.declared.travel_packages.Package.{Package}
use Rattle.packages.specs.declared.travel_packages.Package.TheVariants.{None, Trip}
use Rattle.bound_cert.specs.Texts.{tree_lines}
use Rattle.auction_core.specs.ClosedGame.{ClosedGame}
use Rattle.settlement.specs.Sheets.{Scored}
use Rattle.log_text.specs.LogText.{then_number, play_part}

-- score A BEST CASH SHORT SCORE
abbrev pub score_line : ℕ → Scored → List ℕ
score_line agent scored = row_text (codes "score") (pos agent ∷ pos scored.best ∷ scored.cash ∷ pos scored.short ∷ scored.score ∷ [])

-- package A K none, or package A K H AA AD N1 N2 N3
abbrev pub package_line : ℕ → ℕ → Package → List ℕ
package_line agent client None = codes "package" ++ then_number agent ++ then_number client ++ codes " none"
package_line agent client (Trip hotel arrive depart nights) =
    row_text (codes "package") (pos agent ∷ pos client ∷ pos hotel ∷ pos arrive ∷ pos depart ∷ pos (slice_index nights 0) ∷ pos (slice_index nights 1) ∷ pos (slice_index nights 2) ∷ [])

-- cert A L, where L is the number of the certificate's lines
abbrev pub cert_line : ℕ → ℕ → List ℕ
cert_line agent count = codes "cert" ++ then_number agent ++ then_number count

-- an agent's score, the packages of its clients in order, and its certificate
abbrev pub agent_lines : ℕ → Scored → List (List ℕ)
agent_lines agent scored =
    score_line agent scored ∷ []
    ++ (lines_of_parts (one_line (package_line agent)) 0 scored.allocation ++ (cert_line agent (length (tree_lines scored.tree)) ∷ tree_lines scored.tree))

-- the second part of a log: the lines of the agents in order between `sheet` and `end`
abbrev pub sheet_part : List Scored → List ℕ
sheet_part sheet = text_of (codes "sheet" ∷ [] ++ (lines_of_parts agent_lines 0 sheet ++ codes "end" ∷ []))

-- the whole log of a game
abbrev pub log_text : Head → ClosedGame → List Scored → List ℕ
log_text head closed sheet = play_part head closed ++ sheet_part sheet
