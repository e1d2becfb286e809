-- A game as it is hosted: what is fixed before its links come.
use Rattle.std.specs.Prelude.{ℕ}
use Rattle.game_text.specs.Games.{GameFile}
use Rattle.agent_gate.specs.Dialects.{Dialect}

-- a game that is hosted
pub record HostedGame : Type 1 where
  pub game : GameFile
  -- the form of its agents' lines
  pub dialect : Dialect
  -- the port at which it listens
  pub port : ℕ

abbrev pub hosted_game : GameFile → Dialect → ℕ → HostedGame
hosted_game game dialect port = record { game = game; dialect = dialect; port = port }
