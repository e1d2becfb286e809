use Rattle.std.proofs.Common.{ℕ, ◌<◌}
use Rattle.log_text.specs.SoundLog.{logged_history}
use Rattle.log_audit.specs.Flaws.{IsOnSchedule}
use Rattle.log_audit.proofs.scheduling.off_schedule.Given as goal

abbrev pub invariant-loop-number : goal.invariant-loop-number
invariant-loop-number l = (good : ℕ) → good < l.number → IsOnSchedule l.game good (logged_history l.log good)
