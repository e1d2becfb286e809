use Rattle.std.proofs.Common.{◌≡◌, None, replicate, vec_len, vec_capacity}
use Rattle.game_run.proofs.run.no_lines.Given as goal

abbrev pub invariant-loop : goal.invariant-loop
invariant-loop g l = record {
  none : l.lines.items ≡ replicate l.counter None;
  count : vec_len l.lines ≡ l.counter;
  room : vec_capacity l.lines ≡ 8;
}
