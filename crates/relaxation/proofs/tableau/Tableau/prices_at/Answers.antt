use Rattle.std.proofs.Common.{◌≤◌, length-set, arith}
use Rattle.std.proofs.lemmas.List.Elements.{All-set}
use Rattle.packages.proofs.PriceLists.{equal_prices}
use Rattle.relaxation.proofs.tableau.Tableau.prices_at.Goals as goal

pub loop-good-init : goal.loop-good-init
loop-good-init c = equal_prices 0 (omega arith)

pub loop-good-preserved : goal.loop-good-preserved
loop-good-preserved c =
    let l = c.loop-good in
    record {
      count = omega (arith, length-set l.dollars l.good c.price.result, l.invariant.count);
      each = All-set (λ price. price ≤ 14001) l.dollars l.good c.price.result c.price.ensures l.invariant.each;
    }
