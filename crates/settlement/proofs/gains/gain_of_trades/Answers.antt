use Rattle.std.proofs.Common.{◌*◌, ◌+◌, sym, ◌∙◌, ◌+ℤ◌, arith, to_z, w64}
use Rattle.settlement.proofs.Dollars.{dollars_more, sum_fits, sum_within}
use Rattle.settlement.proofs.gains.gain_of_trades.Goals as goal

pub loop-trade-preserved : goal.loop-trade-preserved
loop-trade-preserved c =
    let trades = c.args.trades.now in let i = c.loop-trade.trade-index in let so_far = c.loop-trade.invariant in let sum = to_z w64 c.loop-trade.sum-bits in
    let fits = sum_fits sum c.gain-sum.result (16711425 * i) 16711425 (omega (arith, c.loop-trade-test.true, c.requires)) so_far.small c.gain-sum.ensures.bound in
    record {
      value = fits ∙ ((λ k. so_far.value k +ℤ c.gain-sum.ensures.value k) ∙ sym (dollars_more trades i c.trade-item.result c.args.party c.loop-trade-test.true c.trade-item.is));
      small = sum_within sum c.gain-sum.result _ (16711425 * i) 16711425 (16711425 * (i + 1)) (omega arith) so_far.small c.gain-sum.ensures.bound fits;
    }
