pub mod Prelude
pub mod Standings
pub mod Rows
pub mod Tallies
pub mod StandingsTexts
pub use Rattle.tourney.specs.Prelude.{AreHistories, GameFile, GoesOn, IsLogged, IsLoggedScore, IsSound, LoggedGame, agents, are_distinct, auctions_in, gives_seat, head_of, text_of}
pub use Rattle.tourney.specs.Rows.{AreRows, IsAverage, IsRow, signed}
pub use Rattle.tourney.specs.Standings.{counts, firsts, game_count, games_in, result_of, results, results_of, results_with, teams, teams_in, total_in}
pub use Rattle.tourney.specs.StandingsTexts.{IsPrinted, standings_text, team_lines}
pub use Rattle.tourney.specs.Tallies.{AreRowsBelow, AreStandingsOf, AreTallies, IsRowAt, IsTally, Kept, is_over, most_score, no_tally, rank_in, result_if_counts, tallies_of, tally_at, tally_of, with_result, with_results, with_score}
