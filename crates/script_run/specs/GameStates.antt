-- A game that one thread plays, step by step.
use Rattle.std.specs.Prelude.{ℕ, ◌+◌, ◌==◌, Bool, false, nat_le, if◌then◌else◌, List, [], ◌∷◌, ◌++◌, length, replicate, count_by, slice_index_or, slice_set, Result, Ok, Err}
use Rattle.script_run.specs.Prelude.{AGENT_CALLS, CASH_READINGS, GOODS, TICKS, Call, GameFile, clock, Entry, board, entry_of, entries_of, CashCall, CashEntry, cash_total, due_post, setup_of, calls_at, Request, RequestFault, Said}
use Rattle.tac_base.specs.declared.calls.Call.TheVariants as calls
use Rattle.trade_ledger.specs.declared.cash_calls.CashCall.TheVariants as cash_calls
use Rattle.trade_ledger.specs.declared.cash_calls.CashReply.TheVariants as cash_replies
use Rattle.line_protocol.specs.declared.asking.Request.TheVariants as requests
use Rattle.line_protocol.specs.declared.saying.Said.TheVariants as said

-- the progress of a game: the past of each good, the newest entry first; the cash history, the oldest entry first; and the number
-- of ticks made
pub record GameState : Type 0 where
  pub pasts : List (List Entry)
  pub cash : List CashEntry
  pub ticks : ℕ

-- the game before any call
abbrev pub opening : GameState
opening = record { pasts = replicate GOODS []; cash = []; ticks = 0 }

abbrev pub past_at : List (List Entry) → ℕ → List Entry
past_at pasts good = slice_index_or pasts good []

-- the entry that the rules give for a call of the caller in the auction of a good
abbrev pub entry_at : GameFile → List (List Entry) → ℕ → ℕ → Call → Entry
entry_at game pasts caller good call = entry_of (setup_of good game) (past_at pasts good) caller call

-- a call is made: its entry is put in front of the good's past, and its post follows at once
abbrev pub called : GameFile → ℕ → ℕ → Call → GameState → GameState
called game caller good call state =
    let e = entry_at game state.pasts caller good call in
    record {
      pasts = slice_set state.pasts good (e ∷ past_at state.pasts good);
      cash = state.cash ++ due_post good (length (past_at state.pasts good)) e;
      ticks = state.ticks;
    }

-- ---- what an agent requests

-- an agent's reading of its own cash
abbrev pub reading_of : List CashEntry → ℕ → CashEntry
reading_of cash agent = record { caller = agent; call = cash_calls.Read agent; reply = cash_replies.Cash (cash_total cash agent) }

abbrev pub reads : ℕ → CashCall → Bool
reads agent (cash_calls.Post good position nets) = false
reads agent (cash_calls.Read reader) = reader == agent

-- the number of readings that the agent made
abbrev pub readings_of : List CashEntry → ℕ → ℕ
readings_of cash agent = count_by (λ e. reads agent e.call) cash

-- an agent's call in the auction of a good, if the agent has a call left there
abbrev pub call_turn : GameFile → ℕ → ℕ → Call → GameState → Said × GameState
call_turn game agent good call state =
    if nat_le AGENT_CALLS (entries_of (past_at state.pasts good) agent) then (said.Spent, state)
    else (said.At (length (past_at state.pasts good)) (entry_at game state.pasts agent good call).reply, called game agent good call state)

-- an agent's reading, if the agent has one left
abbrev pub cash_turn : ℕ → GameState → Said × GameState
cash_turn agent state =
    if nat_le CASH_READINGS (readings_of state.cash agent) then (said.Spent, state)
    else (said.Cash (length state.cash) (cash_total state.cash agent), record { pasts = state.pasts; cash = state.cash ++ reading_of state.cash agent ∷ []; ticks = state.ticks })

-- the reply to an agent, and the game after it
abbrev pub turn : GameFile → ℕ → Result Request RequestFault → GameState → Said × GameState
turn game agent (Ok (requests.Bid good points)) state = call_turn game agent good (calls.Bid points) state
turn game agent (Ok (requests.Withdraw good)) state = call_turn game agent good calls.Withdraw state
turn game agent (Ok (requests.Own good)) state = call_turn game agent good calls.Own state
turn game agent (Ok (requests.Quote good)) state = (said.Quote (board (setup_of good game).rules (past_at state.pasts good)), state)
turn game agent (Ok requests.Cash) state = cash_turn agent state
turn game agent (Ok requests.Quit) state = (said.Bye, state)
turn game agent (Err fault) state = (said.Fault fault, state)

-- ---- the clock

-- the clock makes calls in order, each in the auction of a good
abbrev pub clocked : GameFile → List (ℕ × Call) → GameState → GameState
clocked game [] state = state
clocked game ((good, call) ∷ calls) state = clocked game calls (called game clock good call state)

-- the calls of the next tick are made, if a tick is left
abbrev pub ticked : GameFile → GameState → GameState
ticked game state =
    if nat_le TICKS state.ticks then state
    else clocked game (calls_at game (state.ticks + 1)) (record { pasts = state.pasts; cash = state.cash; ticks = state.ticks + 1 })
