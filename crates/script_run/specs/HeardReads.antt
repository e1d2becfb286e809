-- Where and why the reading of a script stops, and that the lines that came before a read are answered.
use Rattle.std.specs.Prelude.{◌≡◌, ℕ, ◌≤◌, ⊤, List, ◌++◌, length, Option}
use Rattle.script_run.specs.Prelude.{Rose, SinkState, IsAtEnd, known_then, GameFile}
use Rattle.script_run.specs.declared.game.stepping.TheConstants.{PIECE_BYTES}
use Rattle.script_run.specs.HeardScripts.{heard_lines, Reading, AtEnd, Standing, BrokenOff}
use Rattle.script_run.specs.OneThreadRun.{replies}

-- at the end of a file nothing is left of it
abbrev pub StopsThere : Reading → Option (List ℕ) → Type 0
StopsThere AtEnd left = IsAtEnd left
StopsThere reading left = ⊤

-- a script is broken off exactly if the files counted a fault
abbrev pub HasReadCause : Standing → ℕ → ℕ → Type 0
HasReadCause BrokenOff before now = Rose before now
HasReadCause stands before now = now ≡ before

-- Only what one read gave may be unanswered, and a read asks for at most `PIECE_BYTES` bytes: the sink has taken the replies to all lines that
-- came before it.
pub record IsPrompt (game : GameFile) (given : List ℕ) (sink sink' : SinkState) : Type 0 where
  pub before : List ℕ
  pub last : List ℕ
  pub both : given ≡ before ++ last
  pub one_read : length last ≤ PIECE_BYTES
  pub more : List ℕ
  pub answered : sink'.taken ≡ known_then sink.taken (replies game (heard_lines before) ++ more)
