use Rattle.std.proofs.Common.{◌≡◌, ◌++◌, ◌-◌, ◌≤◌, length, take}
use Rattle.game_text.specs.Schedule.{calls_at}
use Rattle.log_audit.specs.Auditing.{calls_for}
use Rattle.log_audit.proofs.scheduling.push_tick.Given as goal

abbrev pub invariant-loop-next : goal.invariant-loop-next
invariant-loop-next l = record {
  within : l.n ≤ length (calls_at l.game l.tick);
  so_far : l.calls.items ≡ l.fn.calls.items ++ calls_for l.good (take l.n (calls_at l.game l.tick));
}

abbrev pub decreases-loop-next : goal.decreases-loop-next
decreases-loop-next l = length (calls_at l.game l.tick) - l.n
