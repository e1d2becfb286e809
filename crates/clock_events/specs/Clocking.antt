-- The ticks that the clock waited for.
use Rattle.std.specs.Prelude.{◌≡◌, ℕ, ◌<◌, List, All, map, count_by}
use Rattle.clock_events.specs.Prelude.{Rose, TickWait, TickerState, known_then, ticks}

-- the clock waited for the 54 ticks in order, each at the pace that was set before the first wait, and this many of them lapsed; the
-- count of faults rose exactly if some did
pub record WaitsForAll (before after : TickerState) (missed : ℕ) : Type 0 where
  pub waits : List TickWait
  pub known : after.waited ≡ known_then before.waited waits
  pub all_ticks : map (λ wait. wait.tick) waits ≡ ticks
  pub all_paced : All (λ wait. wait.paced ≡ before.paced) waits
  pub lapses : count_by (λ wait. wait.lapsed) waits ≡ missed
  pub rose : 0 < missed → Rose before.faults after.faults
  pub same : missed ≡ 0 → after.faults ≡ before.faults
  pub paced : after.paced ≡ before.paced
