use Rattle.std.proofs.Common.{◌≡◌, ◌+◌, ◌∷◌, pos, map, take, length}
use Rattle.game_text.proofs.endowments.endow_numbers.Given as goal

abbrev pub invariant-loop-i : goal.invariant-loop-i
invariant-loop-i l = record {
  count : length l.numbers ≡ 13;
  written : take (1 + l.i) l.numbers ≡ pos l.agent ∷ map pos (take l.i l.endow);
}
