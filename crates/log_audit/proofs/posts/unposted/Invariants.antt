use Rattle.std.proofs.Common.{ℕ, ◌<◌}
use Rattle.log_audit.specs.Flaws.{HasPost}
use Rattle.log_audit.proofs.posts.unposted.Given as goal

abbrev pub invariant-loop-number : goal.invariant-loop-number
invariant-loop-number l = (good position : ℕ) → good < l.number → HasPost l.log good position
