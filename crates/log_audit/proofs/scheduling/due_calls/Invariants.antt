use Rattle.std.proofs.Common.{◌≡◌, take, flat_map}
use Rattle.game_text.specs.Schedule.{calls_at, ticks}
use Rattle.log_audit.specs.Auditing.{calls_for}
use Rattle.log_audit.proofs.scheduling.due_calls.Given as goal

abbrev pub invariant-loop-number : goal.invariant-loop-number
invariant-loop-number l = l.calls.items ≡ calls_for l.good (flat_map (calls_at l.game) (take l.number ticks))
