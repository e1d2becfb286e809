use Rattle.std.proofs.Common.{◌≡◌, ◌≤◌, ◌==◌, take, count_by}
use Rattle.link_audit.proofs.causes.may_use_up.Given as goal

abbrev pub invariant-loop-place : goal.invariant-loop-place
invariant-loop-place l = record {
  counted : l.ends ≡ count_by (λ byte. byte == 10) (take l.place l.asked);
  few : l.ends ≤ l.place;
}
