use Rattle.std.proofs.Common.{ℕ, ◌<◌}
use Rattle.log_audit.specs.Auditing.{HasNamedEntry}
use Rattle.log_audit.proofs.posts.unposted_in.Given as goal

abbrev pub invariant-loop-position : goal.invariant-loop-position
invariant-loop-position l = (k : ℕ) → k < l.position → HasNamedEntry l.history l.places l.good k
