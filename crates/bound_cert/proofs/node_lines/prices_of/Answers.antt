use Rattle.std.proofs.Common.{◌≡◌, map, sym, subst, ◌∙◌, ap, arith, unsigned_abs, take_all}
use Rattle.packages.specs.Prices.{ArePrices}
use Rattle.bound_cert.proofs.LeafLines.{row_prices}
use Rattle.bound_cert.proofs.node_lines.prices_of.Goals as goal

pub invariant_of-result : goal.invariant_of-result
invariant_of-result c =
    let l = c.loop-good in
    let numbers = c.args.numbers.now in
    let count = l.invariant.count in
    let all : l.dollars ≡ map unsigned_abs numbers = sym (take_all l.good l.dollars (omega arith)) ∙ l.invariant.written ∙ ap (map unsigned_abs) (take_all l.good numbers (omega arith)) in
    subst ArePrices (sym all) (row_prices numbers c.told-numbers c.requires)
