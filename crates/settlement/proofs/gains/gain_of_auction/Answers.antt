use Rattle.std.proofs.Common.{◌*◌, ◌+◌, sym, ◌∙◌, ◌+ℤ◌, arith, to_z, w64}
use Rattle.settlement.proofs.Dollars.{gains_more, sum_fits, sum_within}
use Rattle.settlement.proofs.gains.gain_of_auction.Goals as goal

pub loop-position-preserved : goal.loop-position-preserved
loop-position-preserved c =
    let i = c.loop-position.position in let so_far = c.loop-position.invariant in let sum = to_z w64 c.loop-position.sum-bits in let gain = c.gain_of_trades-sum in
    let few = c.len-position-end.ensures.few in
    let fits = sum_fits sum gain.result (4261413375 * i) 4261413375 (omega (arith, c.loop-position-test.true, few)) so_far.small gain.ensures.bound in
    record {
      value = fits ∙ ((λ k. so_far.value k +ℤ gain.ensures.value k) ∙ sym (gains_more c.args.auction.now.history i c.trades_at.result.now c.args.party c.trades_at.ensures.value));
      small = sum_within sum gain.result _ (4261413375 * i) 4261413375 (4261413375 * (i + 1)) (omega arith) so_far.small gain.ensures.bound fits;
    }
