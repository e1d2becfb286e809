use Rattle.std.proofs.Common.{◌≡◌, map, take, length, unsigned_abs}
use Rattle.game_text.proofs.numbers.bytes_of.Given as goal

abbrev pub invariant-loop-i : goal.invariant-loop-i
invariant-loop-i g l = record {
  count : length l.bytes ≡ length l.numbers;
  written : take l.i l.bytes ≡ map unsigned_abs (take l.i l.numbers);
}
