-- What holds of the numbers of every game that was played, by the ranges of logs.
use Rattle.std.specs.Prelude.{◌≤◌, ⊤, List, length, All}
use Rattle.game_log.specs.Prelude.{CASH_ENTRIES, IsHistory, GameFile, IsLoggableCash, ClosedGame, Scored, Head, Play, Serve, IsLoggedVerdict}
use Rattle.game_log.specs.ScoredGames.{IsSheetOf}
use Rattle.game_log.specs.LogRanges.{IsRangedScore}

-- each verdict that seats a link names one of eight agents
abbrev pub HasSeats : Head → Type 0
HasSeats Play = ⊤
HasSeats (Serve links ends missed) = All IsLoggedVerdict links

-- The parts of a game that are in these ranges: the seats of the links, all of each history, of the cash history all but the positions of posts, and of any
-- sheet all but the lines of its certificates.
pub record IsShowable (game : GameFile) (head : Head) (closed : ClosedGame) : Type 0 where
  pub seats : HasSeats head
  pub histories : All (λ auction. IsHistory auction.setup.good auction.history) closed.auctions
  pub few_cash : length closed.cash ≤ CASH_ENTRIES
  pub cash : All IsLoggableCash closed.cash
  pub scores : (sheet : List Scored) → IsSheetOf game closed sheet → All IsRangedScore sheet
