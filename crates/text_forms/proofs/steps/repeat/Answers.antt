use Rattle.std.proofs.Common.{arith, take, length, length-set}
use Rattle.std.proofs.lemmas.Result.{err_from_is_err_and}
use Rattle.text_forms.proofs.Repeats.{ends, reads_one, reads_all}
use Rattle.text_forms.proofs.steps.repeat.Goals as goal

pub returns-in_err-value : goal.returns-in_err-value
returns-in_err-value g c =
    let p = err_from_is_err_and c.from_residual.result c.from_residual.ensures.1 in
    rw (p.1, p.2) (ends (g.P.Part.gives c.args.part.now) (take c.loop-number.number c.loop-number.values) (length c.loop-number.values) c.loop-number.number c.loop-number.left c.in_err-value.field-0.0 _ (omega arith) c.in_err-value.ensures c.loop-number.invariant.left)

pub loop-number-preserved : goal.loop-number-preserved
loop-number-preserved g c = record {
  count = rw length-set c.loop-number.invariant.count;
  left = reads_one (g.P.Part.gives c.args.part.now) c.loop-number.values c.loop-number.number c.loop-number.left c.in_ok-value.value c.in_ok-value.after _ (omega arith) c.in_ok-value.ensures c.loop-number.invariant.left;
}

pub returns : goal.returns
returns g c = reads_all (g.P.Part.gives c.args.part.now) c.loop-number.values c.loop-number.number c.loop-number.left _ (omega arith) c.loop-number.invariant.left
