use Rattle.std.proofs.Common.{◌∙◌, sym, arith}
use Rattle.log_text.specs.LogText.{end_line}
use Rattle.game_log.proofs.Writing.{gathered_next, gathered_all, failed_next}
use Rattle.game_log.proofs.head_part.write_ends.Goals as goal

pub returns-in_err-add : goal.returns-in_err-add
returns-in_err-add g c =
    failed_next end_line c.args.ends.now c.loop-end.end-index c.end-item.result _ _ _ _ _ _ _ c.from_residual.result
    (omega arith) (sym c.end-item.is) (c.as_slice.ensures.value ∙ c.end_line.ensures) c.loop-end.invariant c.in_err-add.ensures c.from_residual.ensures.0

pub loop-end-preserved : goal.loop-end-preserved
loop-end-preserved g c =
    gathered_next end_line c.args.ends.now c.loop-end.end-index c.end-item.result _ _ _ _ _ _ _
    (omega arith) (sym c.end-item.is) (c.as_slice.ensures.value ∙ c.end_line.ensures) c.loop-end.invariant c.in_ok-add.ensures

pub returns : goal.returns
returns g c = gathered_all end_line c.args.ends.now c.loop-end.end-index _ _ _ _ (omega arith) c.loop-end.invariant
