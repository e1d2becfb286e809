use Rattle.std.proofs.Common.{◌≤◌, length-set, arith}
use Rattle.std.proofs.lemmas.List.Edits.{fill_by_more}
use Rattle.std.proofs.lemmas.List.Elements.{All-set}
use Rattle.packages.specs.Stocks.{stock_of}
use Rattle.packages.proofs.PriceLists.{equal_prices}
use Rattle.allocator.specs.Scarcity.{scarcity_price}
use Rattle.allocator.proofs.scarcity.scarcity_prices.Goals as goal

pub loop-good-init : goal.loop-good-init
loop-good-init c =
    let none = equal_prices 0 (omega arith) in
    record { goods = none.count; within = none.each; done = λ k h. absurd (omega arith) }

pub loop-good-preserved : goal.loop-good-preserved
loop-good-preserved c =
    let l = c.loop-good in
    record {
      goods = omega (arith, length-set l.dollars l.good c.scarcity_price.result, l.invariant.goods);
      within = All-set (λ price. price ≤ 14001) l.dollars l.good c.scarcity_price.result c.scarcity_price.ensures.few l.invariant.within;
      done = λ k h. rw c.scarcity_price.ensures.value (fill_by_more (λ good. scarcity_price (stock_of c.args.account.now.holdings) c.args.allocation.now good) l.dollars l.good 0 (omega (arith, l.invariant.goods)) l.invariant.done k h);
    }
