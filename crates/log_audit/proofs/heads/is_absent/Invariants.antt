use Rattle.std.proofs.Common.{◌≡◌, ℕ, ◌<◌, false, ◌==◌}
use Rattle.std.specs.List.{list_any}
use Rattle.log_text.specs.SoundLog.{logged_history}
use Rattle.log_audit.proofs.heads.is_absent.Given as goal

abbrev pub invariant-loop-number : goal.invariant-loop-number
invariant-loop-number l = (good : ℕ) → good < l.number → list_any (λ e. e.caller == l.agent) (logged_history l.log good) ≡ false
