-- A row of the standings for each team.
use Rattle.std.specs.Prelude.{◌≡◌, ℕ, ◌≤◌, List, [], ℤ, pos, negsuc, neg_ℤ, ◌*ℤ◌, Some, length, slice_get, slice_index_or, unsigned_abs}
use Rattle.std.specs.Int.{IsGcd}
use Rattle.tourney.specs.Prelude.{GameFile, LoggedGame}
use Rattle.tourney.specs.declared.rows.TeamRow.{TeamRow}
use Rattle.tourney.specs.Standings.{teams, game_count, total, rank}

-- this many dollars with the sign of a total
abbrev pub signed : ℤ → ℕ → ℤ
signed (pos total) dollars = pos dollars
signed (negsuc total) dollars = neg_ℤ (pos dollars)

-- a total divided by this many games, as a fraction in lowest terms with a positive denominator
pub record IsAverage (total : ℤ) (games : ℕ) (over : ℤ) (under : ℕ) : Type 0 where
  pub same : over *ℤ pos games ≡ total *ℤ pos under
  pub positive : 1 ≤ under
  pub lowest : IsGcd (unsigned_abs over) under 1

-- the row of a team at its place
pub record IsRow (played : List (GameFile × LoggedGame)) (place : ℕ) (word : List ℕ) (row : TeamRow) : Type 0 where
  pub team : row.team ≡ place
  pub games : row.games ≡ game_count played word
  pub total : row.total ≡ total played word
  pub average : IsAverage row.total row.games row.over row.under
  pub rank : row.rank ≡ rank played word

-- the rows of all teams, in their order
pub record AreRows (played : List (GameFile × LoggedGame)) (rows : List TeamRow) : Type 0 where
  pub count : length rows ≡ length (teams played)
  pub each : (place : ℕ) (row : TeamRow) → slice_get rows place ≡ Some row → IsRow played place (slice_index_or (teams played) place []) row
