use Rattle.std.proofs.Common.{◌≡◌, ◌<◌, None, IfSome}
use Rattle.relaxation.specs.Splits.{fixed_at}
use Rattle.relaxation.proofs.relaxing.Relaxation.least_split.Given as goal

abbrev pub invariant-loop : goal.invariant-loop
invariant-loop l = record {
  client : IfSome l.best (λ split. split.client < 8);
  feature : IfSome l.best (λ split. split.feature < 4);
  free : IfSome l.best (λ split. fixed_at l.fixed split.client split.feature ≡ None);
}
