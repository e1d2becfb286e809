-- The steps of the clock's desk.
use Rattle.std.specs.Prelude.{ℕ, List, [], ◌∷◌, ◌++◌, Option, map}
use Rattle.clock_events.specs.Prelude.{known_then, TickWait, Step, CallMade, DueTaken, WaitsNoted, GameFile, calls_at}

-- the steps of a tick, whose ticker has the mark: its due is taken, and then its calls are made in order
abbrev pub steps_at : (mark : ℕ) → GameFile → (tick : ℕ) → List Step
steps_at mark game tick = DueTaken mark tick ∷ map (λ call. CallMade call.0 call.1) (calls_at game tick)

-- The steps over these waits of a ticker that had waited for `waited` before them: for each wait those of its tick, and then that the ticker
-- has not waited again.
abbrev pub steps_over : (mark : ℕ) → GameFile → (waited : Option (List TickWait)) → (waits : List TickWait) → List Step
steps_over mark game waited [] = []
steps_over mark game waited (wait ∷ waits) = steps_at mark game wait.tick ++ WaitsNoted (known_then waited (wait ∷ [])) ∷ steps_over mark game (known_then waited (wait ∷ [])) waits
