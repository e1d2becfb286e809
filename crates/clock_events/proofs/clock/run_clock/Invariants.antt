use Rattle.std.proofs.Common.{◌≡◌, ◌-◌, ◌<◌, take, flat_map}
use Rattle.clock_events.specs.{IsSameDesk, boards_of, desk_calls, desk_steps, calls_at, ticks, MakesCalls}
use Rattle.clock_events.proofs.Waits.{TakesSteps, moment}
use Rattle.clock_events.proofs.clock.run_clock.Given as goal

abbrev pub invariant-loop-number : goal.invariant-loop-number
invariant-loop-number g l = record {
  calls : desk_calls l.desk ≡ flat_map (calls_at l.game) (take (l.number - 1) ticks);
  turns : MakesCalls (flat_map (calls_at l.game) (take (l.number - 1) ticks)) l.initial.desk l.desk;
  boards : boards_of l.desk ≡ boards_of l.initial.desk;
  same : IsSameDesk l.initial.desk l.desk;
  few : l.missed < l.number;
  steps : TakesSteps g.T.Ticker.mark l.game (moment (g.T.Ticker.state l.fn.ticker) (desk_steps l.initial.desk)) (moment (g.T.Ticker.state l.ticker) (desk_steps l.desk)) (l.number - 1) l.missed;
}
