-- When the log of a game is sound.
use Rattle.std.specs.Prelude.{◌≡◌, ℕ, ◌≤◌, ◌<◌, ◌==◌, ⊤, Bool, false, nat_lt, List, [], length, map, filter, count_by, slice_index_or}
use Rattle.std.specs.List.{list_any, enumerate_from}
use Rattle.log_text.specs.Prelude.{Call, GOODS, LINKS, TICKS, Entry, AuctionHistory, IsSheet, Verdict, Seated, Syntax, WrongWord, Taken, Lost, Cause, Head, Play, Serve}
use Rattle.tac_base.specs.Goods.{agents, clock}
use Rattle.game_text.specs.Games.{GameFile}
use Rattle.game_text.specs.Schedule.{clock_calls}
use Rattle.auction_rules.specs.BookRules.{Legal}
use Rattle.trade_ledger.specs.CashHistory.{IsLegalCash}
use Rattle.trade_ledger.specs.BookPosts.{Matched}
use Rattle.auction_core.specs.Setups.{setup_of}
use Rattle.settlement.specs.Settlement.{settlement_of}
use Rattle.log_text.specs.LoggedGames.{LoggedGame}

-- the history of a good
abbrev pub logged_history : LoggedGame → ℕ → List Entry
logged_history log good = slice_index_or log.histories good []

-- the calls of the clock in a history, in order
abbrev pub clock_calls_in : List Entry → List Call
clock_calls_in history = map (λ e. e.call) (filter (λ e. e.caller == clock) history)

-- the auctions of a log: the setup that the game gives each good, and the good's history
abbrev pub auctions_in : GameFile → LoggedGame → List AuctionHistory
auctions_in game log = map (λ p. record { setup = setup_of p.0 game; history = p.1 }) (enumerate_from 0 log.histories)

-- ---- the head of a served game

-- whether a link was given the seat of an agent
abbrev pub gives_seat : ℕ → Verdict → Bool
gives_seat agent (Seated seat) = seat == agent
gives_seat agent Syntax = false
gives_seat agent WrongWord = false
gives_seat agent Taken = false
gives_seat agent Lost = false

-- how many links were given the seat of an agent
abbrev pub seatings : List Verdict → ℕ → ℕ
seatings verdicts agent = count_by (gives_seat agent) verdicts

-- the agents that have a seat, in rising order
abbrev pub logged_seats : List Verdict → List ℕ
logged_seats verdicts = filter (λ agent. nat_lt 0 (seatings verdicts agent)) agents

-- an agent has no entry, in the auction of any good or in the cash history
pub record HasNoEntry (log : LoggedGame) (agent : ℕ) : Type 0 where
  pub calls : (good : ℕ) → good < GOODS → list_any (λ e. e.caller == agent) (logged_history log good) ≡ false
  pub cash : list_any (λ e. e.caller == agent) log.cash ≡ false

-- At most 64 links were taken, and no seat was given twice. Each seated agent has one end, in rising order, and no other agent has one. At
-- most 54 ticks were missed. An agent without a seat has no entry.
pub record IsService (log : LoggedGame) (verdicts : List Verdict) (ends : List (ℕ × Cause)) (missed : ℕ) : Type 0 where
  pub few_links : length verdicts ≤ LINKS
  pub seats_differ : (agent : ℕ) → agent ≤ 7 → seatings verdicts agent ≤ 1
  pub each_end : map (λ end. end.0) ends ≡ logged_seats verdicts
  pub few_missed : missed ≤ TICKS
  pub absent : (agent : ℕ) → agent ≤ 7 → seatings verdicts agent ≡ 0 → HasNoEntry log agent

-- the head of a game from a script has nothing more to meet
abbrev pub IsSoundHead : LoggedGame → Head → Type 0
IsSoundHead log Play = ⊤
IsSoundHead log (Serve verdicts ends missed) = IsService log verdicts ends missed

-- ---- the log

-- The history of each good is legal for the game's setup, and the clock's calls in it are those of the game's schedule. The cash history is
-- legal, and has exactly one post for each entry with a trade. Each agent's score is the one due to it, with a best allocation and a
-- certificate. The head agrees with the histories.
pub record IsSound (game : GameFile) (log : LoggedGame) : Type 0 where
  pub legal : (good : ℕ) → good < GOODS → Legal (setup_of good game) (logged_history log good)
  pub scheduled : (good : ℕ) → good < GOODS → clock_calls_in (logged_history log good) ≡ clock_calls game good
  pub cash : IsLegalCash log.cash
  pub matched : Matched log.histories log.cash
  pub scores : IsSheet game (settlement_of (auctions_in game log)) log.scores
  pub head : IsSoundHead log log.head
