use Rattle.std.proofs.Common.{◌≡◌, ℕ, List, length-set, get_or, sym, ap, ◌∙◌, arith}
use Rattle.tac_base.specs.Goods.{agents}
use Rattle.settlement.specs.{holdings_of, AreHoldings}
use Rattle.settlement.proofs.Filling.{filled_more, all_more}
use Rattle.settlement.proofs.settling.all_holdings.Goals as goal

pub loop-number-preserved : goal.loop-number-preserved
loop-number-preserved c =
    let so_far = c.loop-number.invariant in let place = c.loop-number.number in let held = c.loop-number.holdings in
    let agent : ℕ = c.agent-item.result in let row = c.holdings_after in
    let is : agent ≡ get_or agents place agent = c.agent-item.is ∙ ap (λ (xs : List ℕ). get_or xs place agent) c.all.ensures in
    let value : row.result ≡ holdings_of c.args.auctions.now agent = row.ensures.value ∙ ap (holdings_of c.args.auctions.now) (c.party.ensures ∙ sym c.agent-item.is) in
    record {
      count = length-set held place row.result ∙ so_far.count;
      filled = filled_more (holdings_of c.args.auctions.now) agents held place agent row.result c.loop-number-test.true is (omega (arith, so_far.count)) value so_far.filled;
      range = all_more AreHoldings held place row.result (omega (arith, so_far.count)) row.ensures.range so_far.range;
    }
