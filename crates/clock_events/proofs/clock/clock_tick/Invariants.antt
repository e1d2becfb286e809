use Rattle.std.proofs.Common.{◌≡◌, ◌∷◌, ◌++◌, ◌-◌, ◌≤◌, length, map, take}
use Rattle.clock_events.specs.{IsSameDesk, boards_of, desk_calls, desk_steps, calls_at, CallMade, DueTaken, MakesCalls}
use Rattle.clock_events.proofs.clock.clock_tick.Given as goal

abbrev pub invariant-loop-good : goal.invariant-loop-good
invariant-loop-good g l = record {
  within : l.n ≤ length (calls_at l.game l.tick);
  calls : desk_calls l.desk ≡ desk_calls l.fn.desk ++ take l.n (calls_at l.game l.tick);
  steps : desk_steps l.desk ≡ desk_steps l.fn.desk ++ DueTaken g.T.Ticker.mark l.tick ∷ map (λ call. CallMade call.0 call.1) (take l.n (calls_at l.game l.tick));
  turns : MakesCalls (take l.n (calls_at l.game l.tick)) l.fn.desk l.desk;
  boards : boards_of l.desk ≡ boards_of l.fn.desk;
  same : IsSameDesk l.fn.desk l.desk;
}

abbrev pub decreases-loop-good : goal.decreases-loop-good
decreases-loop-good g l = length (calls_at l.game l.tick) - l.n
