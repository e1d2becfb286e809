use Rattle.dual_bound.specs.{chosen, KeepsLeft}
use Rattle.dual_bound.proofs.RestrictionLaws.{TakesSoFar}
use Rattle.dual_bound.proofs.settling.choose.Given as goal

abbrev pub invariant-loop-place : goal.invariant-loop-place
invariant-loop-place l = record {
  keeps : KeepsLeft (chosen l.choice) l.initial.relaxation.worths.dollars l.relaxation.worths.dollars;
  takes : TakesSoFar l.choice l.place l.relaxation.worths.dollars;
}
