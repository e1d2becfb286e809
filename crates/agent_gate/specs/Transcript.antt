-- The turns of an agent's session against the histories of a game whose calls are over.
use Rattle.std.specs.Prelude.{◌≡◌, ℕ, List, length, map}
use Rattle.std.specs.List.{AllZip}
use Rattle.turn_lock.specs.Part.{part}
use Rattle.turn_lock.specs.Notes.{AreNotes}
use Rattle.auction_core.specs.ClosedGame.{ClosedGame, all_goods}
use Rattle.floor.specs.ClosedBoards.{board_of}
use Rattle.agent_gate.specs.Turns.{Turn, made_at, cash_made, boards_shown}

-- An agent's turns make up its part of each history: no entry of the agent is missing, invented or made twice.
-- Row: ended_by_quit (worked_rows/proofs/LoggedLinks.antt)
pub record IsTranscript (agent : ℕ) (closed : ClosedGame) (turns : List Turn) : Type 0 where
  -- At each good, the agent's part of the history is the entries that its turns made, each at its position. The positions of a part
  -- rise.
  pub calls : map (λ auction. part (λ e. e.caller) auction.history agent) closed.auctions ≡ map (λ good. made_at good turns) all_goods
  -- Its part of the cash history is the posts and readings of its turns, in order.
  pub cash : part (λ e. e.caller) closed.cash agent ≡ cash_made agent turns
  -- A board that was shown and states n entries is that of the first n entries. It may lack the newest entries of other callers.
  pub boards : AllZip (λ auction good. AreNotes (board_of auction) auction.history (length auction.history) (boards_shown good turns)) closed.auctions all_goods
