use Rattle.std.proofs.Common.{◌≡◌, ◌≤◌, ◌*◌, ◌^◌, get_or}
use Rattle.packages.specs.Stocks.{stock_of}
use Rattle.packages.specs.Bounds.{sum_below}
use Rattle.packages.proofs.bounds.stock_value.Given as goal

abbrev pub invariant-loop-good : goal.invariant-loop-good
invariant-loop-good l = record {
  sum : l.total ≡ sum_below (λ good. get_or l.prices good 0 * stock_of l.account.holdings good) l.good;
  few : l.total ≤ 2 ^ 48 * l.good;
}
