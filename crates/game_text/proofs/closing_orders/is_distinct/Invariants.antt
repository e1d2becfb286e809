use Rattle.std.proofs.Common.{◌≡◌, drop}
use Rattle.game_text.specs.ClosingOrders as orders
use Rattle.game_text.proofs.closing_orders.is_distinct.Given as goal

abbrev pub invariant-loop-i : goal.invariant-loop-i
invariant-loop-i l = orders.is_distinct (drop l.i l.goods) ≡ orders.is_distinct l.goods
