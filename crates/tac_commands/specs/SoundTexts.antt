-- Texts that end in the log of a game.
use Rattle.std.specs.Prelude.{◌≡◌, ℕ, ◌≤◌, List, ◌++◌, length}
use Rattle.tac_commands.specs.Prelude.{TEXT_BYTES, GameFile, ClosedGame, Scored, histories_of, LoggedGame, IsLogged, logged_text, IsSound, IsRanged}
use Rattle.line_protocol.specs.Heads.{Head}

-- the contents of the log of a game: how it was played, its histories, its cash history, and a sheet of it
abbrev pub log_of_game : Head → ClosedGame → List Scored → LoggedGame
log_of_game head closed sheet = record { head = head; histories = histories_of closed; cash = closed.cash; scores = sheet }

-- The rest of the text is this log, and nothing else. It is sound by the game, and in the ranges of logs except for the lines of its
-- certificates; it is in all of them if it has no more bytes than a log that is read.
pub record EndsInSoundLog (game : GameFile) (log : LoggedGame) (before text : List ℕ) : Type 0 where
  pub due : text ≡ before ++ logged_text log
  pub sound : IsSound game log
  pub ranged : IsRanged log
  pub logged : length (logged_text log) ≤ TEXT_BYTES → IsLogged log

-- each sound log with this text, whatever comes before it, has the head, the histories and the cash history of this one
abbrev pub IsOnlyGameIn : List ℕ → LoggedGame → Type 0
IsOnlyGameIn text log = (game : GameFile) (other : LoggedGame) (before : List ℕ) → EndsInSoundLog game other before (before ++ text) →
    (log.head ≡ other.head) × (log.histories ≡ other.histories) × (log.cash ≡ other.cash)
