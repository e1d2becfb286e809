use Rattle.reading_laws.proofs.GameLaw.{game_law}
use Rattle.reading_laws.proofs.games.first_bad_line_of_games.Goals as goal

-- src/games.rt:8:1
pub returns : goal.returns
returns c = game_law
