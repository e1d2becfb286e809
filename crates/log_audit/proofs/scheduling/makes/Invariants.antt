use Rattle.std.proofs.Common.{◌≡◌, ◌≤◌, length, take}
use Rattle.log_text.specs.SoundLog.{clock_calls_in}
use Rattle.log_audit.proofs.scheduling.makes.Given as goal

abbrev pub invariant-loop-position : goal.invariant-loop-position
invariant-loop-position l = record {
  within : l.made ≤ length l.due;
  so_far : clock_calls_in (take l.position l.history) ≡ take l.made l.due;
}
