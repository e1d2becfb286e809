use Rattle.std.proofs.Common.{◌≡◌, pos, map, take, length}
use Rattle.game_text.proofs.closing_orders.order_numbers.Given as goal

abbrev pub invariant-loop-i : goal.invariant-loop-i
invariant-loop-i l = record {
  count : length l.numbers ≡ 8;
  written : take l.i l.numbers ≡ map pos (take l.i l.order);
}
