-- What the clock's desk made of the schedule.
use Rattle.std.specs.Prelude.{◌≡◌, ℕ, ◌<◌, List, ◌++◌, map, take, flat_map}
use Rattle.clock_events.specs.Prelude.{Call, GOODS, GameFile, Desk, entries_at, desk_cash, calls_of_good, calls_at, ticks}
use Rattle.clock_events.specs.ClockTurns.{ClockTurn, clock_entries, clock_posts}

-- the calls of a good at the first `count` ticks
abbrev pub calls_until : GameFile → ℕ → ℕ → List Call
calls_until game count good = calls_of_good (flat_map (calls_at game) (take count ticks)) good

-- the desk made the calls of the first `count` ticks, of each good in order, and no others
abbrev pub HasMade : GameFile → ℕ → Desk → Type 0
HasMade game count desk = (good : ℕ) → good < GOODS → map (λ p. p.1.call) (entries_at desk good) ≡ calls_until game count good

-- The desk made these calls in order, and, in the same order, a post for each entry with trades.
pub record MakesCalls (calls : List (ℕ × Call)) (before after : Desk) : Type 0 where
  pub turns : List ClockTurn
  pub asked : map (λ turn. (turn.good, turn.entry.call)) turns ≡ calls
  pub entries : (good : ℕ) → good < GOODS → entries_at after good ≡ entries_at before good ++ clock_entries good turns
  pub cash : desk_cash after ≡ desk_cash before ++ clock_posts turns
