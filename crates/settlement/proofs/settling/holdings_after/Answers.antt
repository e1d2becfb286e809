use Rattle.std.proofs.Common.{◌≡◌, ◌<◌, ℤ, length, length-set, sym, ◌∙◌, subst, arith, to_z, of_z, w32, reverse}
use Rattle.settlement.specs.Prelude.{holding, AuctionHistory, IsHolding}
use Rattle.settlement.proofs.Filling.{filled_more, all_more, holding_fits}
use Rattle.settlement.proofs.settling.holdings_after.Goals as goal

pub loop-good-preserved : goal.loop-good-preserved
loop-good-preserved c =
    let so_far = c.loop-good.invariant in let good = c.loop-good.good in let held = c.loop-good.held in
    let auction = c.index-auctions-good.result in let all = c.args.auctions.now in
    let number : ℤ = to_z w32 (of_z w32 c.holding.result) in
    let same : number ≡ c.holding.result = holding_fits c.holding.result c.holding.ensures.range in
    let inside : good < length held = omega (arith, so_far.count, c.requires, c.loop-good-test.true) in
    record {
      count = length-set held good number ∙ so_far.count;
      filled = filled_more (λ (a : AuctionHistory). holding a.setup (reverse a.history) c.args.party) all held good auction number c.loop-good-test.true c.index-auctions-good.is inside (same ∙ c.holding.ensures.value) so_far.filled;
      range = all_more IsHolding held good number inside (subst IsHolding (sym same) c.holding.ensures.range) so_far.range;
    }
