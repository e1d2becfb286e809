use Rattle.std.proofs.Common.{◌*◌, ◌+◌, sym, ◌∙◌, ◌+ℤ◌, arith, to_z, w64}
use Rattle.settlement.proofs.Dollars.{cash_more, sum_fits, sum_within}
use Rattle.settlement.proofs.gains.gain_of_game.Goals as goal

pub loop-auction-preserved : goal.loop-auction-preserved
loop-auction-preserved c =
    let i = c.loop-auction.auction-index in let so_far = c.loop-auction.invariant in let sum = to_z w64 c.loop-auction.sum-bits in let gain = c.gain_of_auction-sum in
    let all = c.args.auctions.now in
    let fits = sum_fits sum gain.result (35182228824000 * i) 35182228824000 (omega (arith, c.loop-auction-test.true, c.requires)) so_far.small gain.ensures.bound in
    record {
      value = fits ∙ ((λ k. so_far.value k +ℤ gain.ensures.value k) ∙ sym (cash_more all i c.auction-item.result c.args.party c.loop-auction-test.true c.auction-item.is));
      small = sum_within sum gain.result _ (35182228824000 * i) 35182228824000 (35182228824000 * (i + 1)) (omega arith) so_far.small gain.ensures.bound fits;
    }
