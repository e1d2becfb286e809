use Rattle.std.proofs.Common.{◌≤ℤ◌, ◌≤◌, ℤ, arith, pos, negsuc, subst, sym, ◌∙◌, ap}
use Rattle.std.proofs.lemmas.Int.{ints}
use Rattle.flight_auction.proofs.Drifts.{drift_between, drift_steps}
use Rattle.flight_auction.proofs.prices.drift.Goals as goal

pub returns-clause-value : goal.returns-clause-value
returns-clause-value c =
    let le : c.args.tick ≤ 54 = omega (arith, c.get.ensures.range, c.get.ensures.value) in
    drift_steps c.args.bound c.from-2.result c.from.result c.div_euclid.result c.args.tick c.requires.bound_from c.requires.bound_to le
    (c.from.ensures ∙ ap pos c.get.ensures.value) (omega (arith, ints)) c.div_euclid.ensures

pub returns-clause-from : goal.returns-clause-from
returns-clause-from c =
    let le : c.args.tick ≤ 54 = omega (arith, c.get.ensures.range, c.get.ensures.value) in
    subst (λ (z : ℤ). negsuc 9 ≤ℤ z) (sym (returns-clause-value c)) (drift_between c.args.bound c.args.tick c.requires.bound_from c.requires.bound_to le).0

pub returns-clause-to : goal.returns-clause-to
returns-clause-to c =
    let le : c.args.tick ≤ 54 = omega (arith, c.get.ensures.range, c.get.ensures.value) in
    subst (λ (z : ℤ). z ≤ℤ pos 30) (sym (returns-clause-value c)) (drift_between c.args.bound c.args.tick c.requires.bound_from c.requires.bound_to le).1
