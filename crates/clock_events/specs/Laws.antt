-- What the calls of a tick are, whatever the game.
use Rattle.std.specs.Prelude.{◌≡◌, ◌≤◌, ◌==◌, ℕ, count_by}
use Rattle.clock_events.specs.Prelude.{UPDATE_TICKS, Call, Bid, Withdraw, Own, Update, Publish, Close, GameFile, calls_at}

-- how many calls of a tick are of a good
abbrev pub tick_calls_of : GameFile → ℕ → ℕ → ℕ
tick_calls_of game tick good = count_by (λ call. call.0 == good) (calls_at game tick)

-- a call that the clock makes of a good at a tick: an update of a flight at its tick, a publication of a hotel, or a closing
abbrev pub IsFor : ℕ → ℕ → Call → Type 0
IsFor tick good (Update when draw) = (when ≡ tick) × (tick ≤ UPDATE_TICKS) × (good ≤ 7)
IsFor tick good Publish = (8 ≤ good) × (good ≤ 15)
IsFor tick good Close = good ≤ 27
IsFor tick good (Bid points) = ⊥
IsFor tick good Withdraw = ⊥
IsFor tick good Own = ⊥

abbrev pub IsDueCall : ℕ → ℕ × Call → Type 0
IsDueCall tick (good, call) = IsFor tick good call
