use Rattle.std.proofs.Common.{◌∙◌, sym, arith}
use Rattle.log_text.specs.LogText.{trade_line}
use Rattle.game_log.proofs.Writing.{gathered_next, failed_next}
use Rattle.game_log.proofs.play_part.write_trades.Goals as goal

pub returns-in_err-add : goal.returns-in_err-add
returns-in_err-add g c =
    failed_next trade_line c.args.trades.now c.loop-trade.trade-index c.trade-item.result _ _ _ _ _ _ _ c.from_residual.result
    (omega arith) (sym c.trade-item.is) (c.as_slice.ensures.value ∙ c.trade_line.ensures) c.loop-trade.invariant c.in_err-add.ensures c.from_residual.ensures.0

pub loop-trade-preserved : goal.loop-trade-preserved
loop-trade-preserved g c =
    gathered_next trade_line c.args.trades.now c.loop-trade.trade-index c.trade-item.result _ _ _ _ _ _ _
    (omega arith) (sym c.trade-item.is) (c.as_slice.ensures.value ∙ c.trade_line.ensures) c.loop-trade.invariant c.in_ok-add.ensures
