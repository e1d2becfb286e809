use Rattle.std.proofs.Common.{◌≡◌, map, take, length, unsigned_abs}
use Rattle.game_text.proofs.closing_orders.goods_of.Given as goal

abbrev pub invariant-loop-i : goal.invariant-loop-i
invariant-loop-i l = record {
  count : length l.goods ≡ 8;
  written : take l.i l.goods ≡ map unsigned_abs (take l.i l.numbers);
}
