-- The text of the standings.
use Rattle.std.specs.Prelude.{◌≡◌, ℕ, List, [], ◌∷◌, ◌++◌, pos, codes, decimal, length, map, slice_index_or}
use Rattle.std.specs.Fmt.{signed_decimal}
use Rattle.std.specs.List.{join_with_byte}
use Rattle.tourney.specs.Prelude.{text_of, GameFile, LoggedGame}
use Rattle.text_forms.specs.Rows.{row_text}
use Rattle.tourney.specs.declared.rows.TeamRow.{TeamRow}
use Rattle.tourney.specs.Standings.{teams}
use Rattle.tourney.specs.Rows.{AreRows}

-- NUM/DEN
abbrev pub average_text : TeamRow → List ℕ
average_text row = signed_decimal row.over ++ 47 ∷ decimal row.under

-- GAMES TOTAL NUM/DEN RANK
abbrev pub numbers_text : TeamRow → List ℕ
numbers_text row = join_with_byte 32 (decimal row.games ∷ signed_decimal row.total ∷ average_text row ∷ decimal row.rank ∷ [])

-- team WORD GAMES TOTAL NUM/DEN RANK
abbrev pub team_line : List ℕ → TeamRow → List ℕ
team_line word row = join_with_byte 32 (codes "team" ∷ word ∷ numbers_text row ∷ [])

-- the line of each team: its word is the one at its place
abbrev pub team_lines : List (List ℕ) → List TeamRow → List (List ℕ)
team_lines words rows = map (λ row. team_line (slice_index_or words row.team []) row) rows

-- table N, the teams in their order, and end
abbrev pub standings_lines : List (GameFile × LoggedGame) → List TeamRow → List (List ℕ)
standings_lines played rows = row_text (codes "table") (pos (length played) ∷ []) ∷ team_lines (teams played) rows ++ codes "end" ∷ []

-- the text of the standings of games, with their rows
abbrev pub standings_text : List (GameFile × LoggedGame) → List TeamRow → List ℕ
standings_text played rows = text_of (standings_lines played rows)

-- the text after the standings of games were appended to it
pub record IsPrinted (played : List (GameFile × LoggedGame)) (before after : List ℕ) : Type 0 where
  pub rows : List TeamRow
  pub are : AreRows played rows
  pub is : after ≡ before ++ standings_text played rows
