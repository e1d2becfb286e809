-- What the standings keep: for each team its tally, and how many games there were.
use Rattle.std.specs.Prelude.{◌≡◌, ℕ, ◌+◌, ◌*◌, ◌≤◌, if◌then◌else◌, List, [], ◌∷◌, ℤ, pos, ◌+ℤ◌, length, map, fold, unsigned_abs, Bool, Some, count_by, slice_get, All, unwrap_or, bytes_eq}
use Rattle.std.specs.Map.{lookup, values_of}
use Rattle.tac_base.specs.declared.limits.TheConstants.{AGENTS}
use Rattle.indexmap.specs.IndexMap.{insert_entry}
use Rattle.tourney.specs.Prelude.{GameFile, LoggedGame}
use Rattle.tourney.specs.declared.tallies.Tally.{Tally}
use Rattle.tourney.specs.declared.rows.TeamRow.{TeamRow}
use Rattle.tourney.specs.Standings.{counts, result_of, results, teams_in, games_in, total_in, is_above}
use Rattle.tourney.specs.Rows.{IsAverage}

-- the tallies of the teams in their order, and the number of games
pub record Kept : Type 0 where
  pub tallies : List (List ℕ × Tally)
  pub games : ℕ

-- a team's tally of results
abbrev pub tally_of : List (List ℕ × ℤ) → List ℕ → Tally
tally_of results word = record { games = games_in results word; total = total_in results word }

-- the tallies of all teams of results
abbrev pub tallies_of : List (List ℕ × ℤ) → List (List ℕ × Tally)
tallies_of results = map (λ word. (word, tally_of results word)) (teams_in results)

-- standings stand for games: they have the tally of each team, in the teams' order, and the number of games
pub record AreStandingsOf (kept : Kept) (played : List (GameFile × LoggedGame)) : Type 0 where
  pub tallies : kept.tallies ≡ tallies_of (results played)
  pub games : kept.games ≡ length played

-- ---- how they change

abbrev pub no_tally : Tally
no_tally = record { games = 0; total = pos 0 }

-- the tally of a team, which is zero at first
abbrev pub tally_at : List (List ℕ × Tally) → List ℕ → Tally
tally_at tallies word = unwrap_or (lookup (bytes_eq word) tallies) no_tally

-- a tally with one more game
abbrev pub with_score : Tally → ℤ → Tally
with_score tally score = record { games = tally.games + 1; total = tally.total +ℤ score }

-- tallies with one more result
abbrev pub with_result : List (List ℕ × Tally) → List ℕ × ℤ → List (List ℕ × Tally)
with_result tallies result = insert_entry bytes_eq tallies result.0 (with_score (tally_at tallies result.0) result.1)

abbrev pub with_results : List (List ℕ × Tally) → List (List ℕ × ℤ) → List (List ℕ × Tally)
with_results tallies results = fold with_result tallies results

-- the result of an agent, if it counts
abbrev pub result_if_counts : GameFile × LoggedGame → ℕ → List (List ℕ × ℤ)
result_if_counts played agent = if counts played.1.head agent then result_of played agent ∷ [] else []

-- ---- ranges

-- the greatest score of a sound log in dollars, in absolute value
abbrev pub most_score : ℕ
most_score = 10000000000000

-- a tally of at least one game and at most this many
pub record IsTally (most : ℕ) (tally : Tally) : Type 0 where
  pub some : 1 ≤ tally.games
  pub few : tally.games ≤ most
  pub small : unsigned_abs tally.total ≤ tally.games * most_score

-- at most eight teams per game, and none that counts in more games than there were
pub record AreTallies (tallies : List (List ℕ × Tally)) (games : ℕ) : Type 0 where
  pub few : length tallies ≤ AGENTS * games
  pub each : All (λ team. IsTally games team.1) tallies

-- ---- rows

-- whether a team is ahead of one with this tally
abbrev pub is_over : Tally → Tally → Bool
is_over tally other = is_above other.total other.games tally.total tally.games

-- 1 plus the number of teams that are ahead
abbrev pub rank_in : List (List ℕ × Tally) → Tally → ℕ
rank_in tallies tally = 1 + count_by (is_over tally) (values_of tallies)

-- the row of the team at a place of tallies
pub record IsRowAt (tallies : List (List ℕ × Tally)) (place : ℕ) (row : TeamRow) : Type 0 where
  pub team : row.team ≡ place
  pub tally : slice_get (values_of tallies) place ≡ Some (record { games = row.games; total = row.total })
  pub average : IsAverage row.total row.games row.over row.under
  pub rank : row.rank ≡ rank_in tallies (record { games = row.games; total = row.total })

-- the rows of the first teams
pub record AreRowsBelow (tallies : List (List ℕ × Tally)) (places : ℕ) (rows : List TeamRow) : Type 0 where
  pub count : length rows ≡ places
  pub each : (place : ℕ) (row : TeamRow) → slice_get rows place ≡ Some row → IsRowAt tallies place row
