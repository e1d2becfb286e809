use Rattle.std.proofs.Common.{◌≡◌, ℕ, ◌/◌, ◌%◌, ◌<◌, true, None, is_some, IfSome, IfNone}
use Rattle.relaxation.specs.Splits.{fixed_at}
use Rattle.relaxation.proofs.relaxing.Relaxation.least_open.Given as goal

abbrev pub invariant-loop-place : goal.invariant-loop-place
invariant-loop-place l = record {
  client : IfSome l.best (λ split. split.client < 8);
  feature : IfSome l.best (λ split. split.feature < 4);
  free : IfSome l.best (λ split. fixed_at l.fixed split.client split.feature ≡ None);
  rest : IfNone l.best ((k : ℕ) → k < l.place → is_some (fixed_at l.fixed (k / 4) (k % 4)) ≡ true);
}
