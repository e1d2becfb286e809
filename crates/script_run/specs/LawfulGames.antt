-- What holds of every game that is played by a script.
use Rattle.std.specs.Prelude.{◌≡◌, ℕ, ◌<◌, ◌≤◌, ⊤, List, [], map, slice_index_or, Result, Ok, Err}
use Rattle.script_run.specs.Prelude.{Call, clock, GOODS, GameFile, clock_calls, Entry, Legal, part, IsLegalCash, Matched, ClosedGame, all_goods, setup_of, Request, RequestFault, histories_of}
use Rattle.line_protocol.specs.RequestForms.{IsRequest}
use Rattle.script_run.specs.declared.game.lines.GameLine.{GameLine}
use Rattle.script_run.specs.declared.game.lines.GameLine.TheVariants.{Tick, Asks}

-- ---- the lines of a script

-- a request is in range
abbrev pub IsAskedInRange : Result Request RequestFault → Type 0
IsAskedInRange (Ok request) = IsRequest request
IsAskedInRange (Err fault) = ⊤

-- an agent is one of eight
abbrev pub IsLine : GameLine → Type 0
IsLine Tick = ⊤
IsLine (Asks agent asked) = (agent ≤ 7) × IsAskedInRange asked

-- ---- the histories

-- the history of a good
abbrev pub closed_history : ClosedGame → ℕ → List Entry
closed_history closed good = slice_index_or (histories_of closed) good []

-- the calls of a caller in a history, in order
abbrev pub calls_by : ℕ → List Entry → List Call
calls_by caller history = map (λ p. p.1.call) (part (λ e. e.caller) history caller)

-- The auctions are those of the game's goods in order. Each history is legal by the rules, and the clock's calls in it are those of the
-- schedule, all 54 ticks. The cash history is legal, and has exactly one post for each entry with a trade.
pub record IsLawfulGame (game : GameFile) (closed : ClosedGame) : Type 0 where
  pub setups : map (λ auction. auction.setup) closed.auctions ≡ map (λ good. setup_of good game) all_goods
  pub legal : (good : ℕ) → good < GOODS → Legal (setup_of good game) (closed_history closed good)
  pub scheduled : (good : ℕ) → good < GOODS → calls_by clock (closed_history closed good) ≡ clock_calls game good
  pub cash : IsLegalCash closed.cash
  pub matched : Matched (histories_of closed) closed.cash
