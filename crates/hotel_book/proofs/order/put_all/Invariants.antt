use Rattle.std.proofs.Common.{◌≡◌, ◌+◌, ◌≤◌, ℕ, length, take, All, sum_by}
use Rattle.hotel_book.specs.{Unit as ShownUnit, BID_PRICE, shown_unit, AreSortedUnits}
use Rattle.hotel_book.proofs.order.put_all.Given as goal

abbrev pub invariant-loop-unit : goal.invariant-loop-unit
invariant-loop-unit l = record {
  len : length l.units.items ≡ length l.fn.units.items + l.unit-index;
  order : AreSortedUnits l.units.items;
  prices : All (λ u. u.price ≤ BID_PRICE) l.units.items;
  units : (weight : ShownUnit → ℕ) → sum_by weight l.units.items ≡ sum_by weight l.fn.units.items + sum_by (λ u. weight (shown_unit u)) (take l.unit-index l.unit-items);
}
