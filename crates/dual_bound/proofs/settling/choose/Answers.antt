use Rattle.std.proofs.Common.{◌/◌, ◌%◌, refl, arith}
use Rattle.dual_bound.proofs.RestrictionLaws.{keeps_next, takes_next, restricted}
use Rattle.dual_bound.proofs.settling.choose.Goals as goal

pub loop-place-init : goal.loop-place-init
loop-place-init c = record {
  keeps = λ k n p k_in at left. refl;
  takes = λ k n feature value p k_in feature_in lt at fixed lacks. absurd (omega (arith, lt));
}

pub loop-place-preserved : goal.loop-place-preserved
loop-place-preserved c =
    let l = c.loop-place in
    let choice = c.args.choice.now in
    let client = l.place / 4 in
    let feature = l.place % 4 in
    let old = l.relaxation.worths.dollars in
    let new = c.narrow_at.new.relaxation.worths.dollars in
    record {
      keeps = keeps_next choice client feature c.args.relaxation.now.worths.dollars old new (omega arith) c.narrow_at.ensures l.invariant.keeps;
      takes = takes_next choice client feature l.place old new (omega arith) (omega arith) c.narrow_at.ensures l.invariant.takes;
    }

pub returns : goal.returns
returns c = restricted c.args.choice.now c.loop-place.place c.args.relaxation.now.worths.dollars c.loop-place.relaxation.worths.dollars (omega arith) c.loop-place.invariant.keeps c.loop-place.invariant.takes
