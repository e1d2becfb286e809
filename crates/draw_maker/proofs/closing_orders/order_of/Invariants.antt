use Rattle.std.proofs.Common.{◌≡◌, length, drop, fold, [], ◌∷◌, zip}
use Rattle.draw_maker.specs.ClosingOrders.{exchanged, made_order}
use Rattle.draw_maker.proofs.closing_orders.order_of.Given as goal

-- the swaps that are left make the order
abbrev pub invariant-loop-i : goal.invariant-loop-i
invariant-loop-i l = record {
  count : length l.order ≡ 8;
  left : fold exchanged l.order (drop l.i (zip (7 ∷ 6 ∷ 5 ∷ 4 ∷ 3 ∷ 2 ∷ 1 ∷ []) l.drawn)) ≡ made_order l.drawn;
}
