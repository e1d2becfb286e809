use Rattle.std.proofs.Common.{is_some, sym, ap, ◌∙◌, length-set, arith}
use Rattle.std.proofs.lemmas.Bool.{false≢true}
use Rattle.std.proofs.lemmas.Option.{slice_get_within}
use Rattle.dual_bound.specs.Prelude.{packages, cost_of}
use Rattle.packages.proofs.Decoded.{length-packages}
use Rattle.relaxation.proofs.TableLaws.{entries_more}
use Rattle.dual_bound.proofs.quotes.costs.Goals as goal
use Rattle.dual_bound.proofs.quotes.costs.Goals.{in-Some, in_default}

pub loop-number-preserved : goal.loop-number-preserved
loop-number-preserved c =
    let l = c.loop-number in
    elim c.match-package.branch [
      | in-Some w ↦
          let more = entries_more (cost_of c.args.prices.now) 0 l.costs l.number w.from.result w.cost.result w.in-Some.choice (omega (arith, l.invariant.long)) (sym c.package.ensures.value ∙ w.in-Some.is) w.cost.ensures.value w.from.ensures l.invariant.each in
          rw w.costs-is (record { long = omega (arith, length-set l.costs w.from.result w.cost.result, l.invariant.long); each = more })
      | in_default w ↦ absurd (false≢true (sym (ap is_some w.in_default.is) ∙ c.package.ensures.variant.1 c.loop-number-test.true))
    ]

pub returns : goal.returns
returns c = λ n p at. c.loop-number.invariant.each n p (omega (arith, slice_get_within packages n p at, length-packages)) at
