use Rattle.std.proofs.Common.{◌≡◌, List, ◌++◌, take}
use Rattle.tourney.specs.{text_of, GoesOn, GameFile, LoggedGame, teams, AreStandingsOf, team_lines}
use Rattle.tourney.proofs.printing.print_teams.Given as goal

abbrev pub invariant-loop-row : goal.invariant-loop-row
invariant-loop-row l = record {
  text : (played : List (GameFile × LoggedGame)) → AreStandingsOf l.standings played → l.out.items ≡ l.fn.out.items ++ text_of (team_lines (teams played) (take l.row-index l.rows));
  part : GoesOn l.fn.out.items l.out.items;
}
