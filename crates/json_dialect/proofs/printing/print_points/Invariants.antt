use Rattle.std.proofs.Common.{◌≡◌, ◌+◌, ◌*◌, ◌≤◌, ◌++◌, ◌∷◌, length, take, map}
use Rattle.std.specs.List.{join_with_byte}
use Rattle.json_dialect.specs.JsonReplies.{json_point_text}
use Rattle.json_dialect.proofs.printing.print_points.Given as goal

abbrev pub invariant-loop-i : goal.invariant-loop-i
invariant-loop-i l = record {
  len : length l.out ≤ length l.fn.out + 1 + 13 * l.i;
  text : l.out ≡ l.fn.out ++ 91 ∷ join_with_byte 44 (map json_point_text (take l.i l.points));
}
