use Rattle.std.proofs.Common.{ℕ, ◌<◌, take}
use Rattle.log_audit.specs.{HasDuePost, AreNamed}
use Rattle.log_audit.proofs.posts.false_post.Given as goal

abbrev pub invariant-loop-position : goal.invariant-loop-position
invariant-loop-position l = record {
  due : (k : ℕ) → k < l.position → HasDuePost l.log k;
  named : AreNamed (take l.position l.log.cash) l.places;
}
