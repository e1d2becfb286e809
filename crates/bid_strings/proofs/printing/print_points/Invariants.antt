use Rattle.std.proofs.Common.{◌≡◌, ◌+◌, ◌*◌, ◌≤◌, ◌++◌, ◌∷◌, length, take, flat_map}
use Rattle.std.specs.List.{join_with_byte}
use Rattle.bid_strings.specs.Spelling.{point_words}
use Rattle.bid_strings.proofs.printing.print_points.Given as goal

abbrev pub invariant-loop-i : goal.invariant-loop-i
invariant-loop-i l = record {
  len : length l.out ≤ length l.fn.out + 1 + 13 * l.i;
  text : l.out ≡ l.fn.out ++ 40 ∷ join_with_byte 32 (flat_map point_words (take l.i l.points));
}
