-- The counts that are kept beside a game that is being played.
use Rattle.std.specs.Prelude.{◌≡◌, ℕ, ◌+◌, ◌≤◌, ◌==◌, List, length, sum_by, count_by, take, slice_index}
use Rattle.script_run.specs.Prelude.{AGENT_CALLS, CASH_READINGS, GOODS, TICKS, Call, GameFile, clock, Entry, entries_of, part}
use Rattle.game_text.specs.Schedule as schedule
use Rattle.script_run.specs.declared.game.call_counts.CallCounts.{CallCounts}
use Rattle.script_run.specs.CallCounts.{count_at}
use Rattle.script_run.specs.GameStates.{GameState, past_at, readings_of}

-- the caller's entries in all auctions
abbrev pub made : List (List Entry) → ℕ → ℕ
made pasts caller = sum_by (λ past. entries_of past caller) pasts

-- the clock's calls of this many ticks
abbrev pub due : GameFile → ℕ → ℕ
due game ticks = sum_by (λ tick. length (schedule.calls_at game tick)) (take ticks schedule.ticks)

-- the clock may make the remaining calls of its tick: each good then has at most one call for each tick, and all goods no more
-- calls than the schedule
pub record HasClockRoom (game : GameFile) (state : GameState) (left : List (ℕ × Call)) : Type 0 where
  pub each : (good : ℕ) → entries_of (past_at state.pasts good) clock + count_by (λ call. call.0 == good) left ≤ state.ticks
  pub all : made state.pasts clock + length left ≤ due game state.ticks

-- the agents' calls and readings are counted, and no more than each has; each post in the cash history is that of an entry
pub record AreCounted (game : GameFile) (state : GameState) (counts : CallCounts) (read : List ℕ) : Type 0 where
  pub goods : length state.pasts ≡ GOODS
  pub ticks : state.ticks ≤ TICKS
  pub calls : (agent good : ℕ) → agent ≤ 7 → good ≤ 27 → count_at counts agent good ≡ entries_of (past_at state.pasts good) agent
  pub few_calls : (agent good : ℕ) → agent ≤ 7 → entries_of (past_at state.pasts good) agent ≤ AGENT_CALLS
  pub readings : (agent : ℕ) → agent ≤ 7 → slice_index read agent ≡ readings_of state.cash agent
  pub few_readings : (agent : ℕ) → agent ≤ 7 → readings_of state.cash agent ≤ CASH_READINGS
  pub no_reading : readings_of state.cash clock ≡ 0
  pub posted : (caller : ℕ) → length (part (λ e. e.caller) state.cash caller) ≤ made state.pasts caller + readings_of state.cash caller
  pub clock_each : (good : ℕ) → entries_of (past_at state.pasts good) clock ≤ state.ticks
  pub clock_all : made state.pasts clock ≤ due game state.ticks
