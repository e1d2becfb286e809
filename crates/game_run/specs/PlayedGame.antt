-- A game that was played over links.
use Rattle.std.specs.Prelude.{◌≡◌, ℕ, ◌<◌, List, [], false, All, filter, map, slice_index_or}
use Rattle.tac_base.specs.Goods.{agents, clock}
use Rattle.tac_base.specs.declared.limits.TheConstants.{AGENTS}
use Rattle.line_protocol.specs.declared.admission.Cause.{Cause}
use Rattle.line_protocol.specs.declared.admission.Verdict.{Verdict}
use Rattle.game_text.specs.Games.{GameFile}
use Rattle.game_text.specs.Schedule.{schedule}
use Rattle.turn_lock.specs.Part.{part}
use Rattle.auction_core.specs.ClosedGame.{ClosedGame, all_goods}
use Rattle.auction_core.specs.Setups.{setup_of}
use Rattle.clock_events.specs.ClockTurns.{ClockTurn, clock_entries, clock_posts}
use Rattle.agent_gate.specs.Transcript.{IsTranscript}
use Rattle.auction_rules.specs.Legal.{IsLegalHistory}
use Rattle.trade_ledger.specs.CashHistory.{IsLegalCash}
use Rattle.trade_ledger.specs.Posts.{IsPosted}
use Rattle.game_run.specs.Admission.{seats_given}

-- The histories of a game are legal by its rules: those of the 28 auctions, and the cash history.
pub record IsLegalGame (game : GameFile) (closed : ClosedGame) : Type 0 where
  -- There are 28 auctions, with the setups of the game.
  pub setups : map (λ auction. auction.setup) closed.auctions ≡ map (λ good. setup_of good game) all_goods
  pub legal : All (λ auction. IsLegalHistory auction.setup auction.history) closed.auctions
  pub cash : IsLegalCash closed.cash
  -- There is exactly one post for each entry with trades, so a party's total is the sum of its dollars over all trades.
  pub matched : IsPosted (map (λ auction. auction.history) closed.auctions) closed.cash

-- The clock's turns make up its part of each history: no call of the clock is missing, invented or made twice.
pub record IsClockTranscript (game : GameFile) (closed : ClosedGame) : Type 0 where
  pub turns : List ClockTurn
  -- In order, they make the calls of the schedule.
  pub asked : map (λ turn. (turn.good, turn.entry.call)) turns ≡ schedule game
  -- At each good, the clock's part of the history is the entries that its turns made, each at its position.
  pub calls : map (λ auction. part (λ e. e.caller) auction.history clock) closed.auctions ≡ map (λ good. clock_entries good turns) all_goods
  -- Its part of the cash history is the posts of its turns, in order: the clock reads no cash.
  pub cash : part (λ e. e.caller) closed.cash clock ≡ clock_posts turns

-- what was played over links
pub record PlayedGame : Type 0 where
  -- the verdict on each link, in the order in which they came
  pub verdicts : List Verdict
  -- each agent with a seat, and why its session ended
  pub ends : List (ℕ × Cause)
  -- the histories
  pub closed : ClosedGame

-- The histories are legal, and the clock's turns are those of the schedule.
pub record IsPlayedBy (game : GameFile) (played : PlayedGame) : Type 0 where
  pub legal_game : IsLegalGame game played.closed
  -- Each agent with a seat has one end, and they are in the order of the agents.
  pub each_end : map (λ end. end.0) played.ends ≡ filter (λ agent. slice_index_or (seats_given game played.verdicts).taken agent false) agents
  -- An agent without a seat took no turn, so no entry is its own.
  pub absent : (agent : ℕ) → agent < AGENTS → slice_index_or (seats_given game played.verdicts).taken agent false ≡ false → IsTranscript agent played.closed []
  pub clock_transcript : IsClockTranscript game played.closed
