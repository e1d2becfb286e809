use Rattle.std.proofs.Common.{ℕ, ap, arith}
use Rattle.std.proofs.lemmas.List.Sums.{sum_by_more}
use Rattle.hotel_book.specs.Prelude.{BidUnit, shown_unit}
use Rattle.hotel_book.proofs.order.put_all.Goals as goal

pub loop-unit-preserved : goal.loop-unit-preserved
loop-unit-preserved c = record {
  len = omega (arith, c.put.ensures.len, c.loop-unit.invariant.len);
  order = c.put.ensures.order;
  prices = c.put.ensures.prices;
  units = λ weight.
      let weigh : BidUnit → ℕ = λ u. weight (shown_unit u) in
      omega (
        arith,
        c.put.ensures.units weight,
        c.loop-unit.invariant.units weight,
        ap weight c.shown.ensures,
        ap weigh c.unit-item.is,
        sum_by_more weigh c.as_slice-unit-items.result.now c.loop-unit.unit-index c.unit-item.result c.loop-unit-test.true,
      );
}
