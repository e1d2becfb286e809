-- What a desk did at the auctions, and what it noted of the clock's ticker, in order.
use Rattle.std.specs.Prelude.{ℕ, List, Option, Some, None, filter_map}
use Rattle.tac_base.specs.declared.calls.Call.{Call}
use Rattle.tac_io.specs.States.{TickWait}

-- A due of the tick was taken, which a ticker of the mark gave; or the call was made at the good; or a ticker had waited so far for these
-- ticks, where they are known. The first is put there only by a call that consumes a `Due` of the tick and of a ticker type that has the
-- mark, the second only by one that makes the call, and the third only by one that is lent the ticker.
pub data Step : Type 0 where
  DueTaken : (mark tick : ℕ) → Step
  CallMade : (good : ℕ) → (call : Call) → Step
  WaitsNoted : (waited : Option (List TickWait)) → Step

-- the call of a step and its good, if it made one
abbrev pub call_of_step : Step → Option (ℕ × Call)
call_of_step (DueTaken mark tick) = None
call_of_step (CallMade good call) = Some (good, call)
call_of_step (WaitsNoted waited) = None

-- the calls of steps, in order
abbrev pub calls_of_steps : List Step → List (ℕ × Call)
calls_of_steps steps = filter_map call_of_step steps
