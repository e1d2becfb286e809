use Rattle.std.proofs.Common.{◌≡◌, ◌++◌, ◌≤◌, map, length, vec_capacity, Ok}
use Rattle.std.specs.Vec.Iter.{into_iter_items}
use Rattle.score_sheet.proofs.joining.all_found.Given as goal

abbrev pub invariant-loop-score : goal.invariant-loop-score
invariant-loop-score l = record {
  rest : l.fn.found.items ≡ l.yielded ++ into_iter_items l.score-iterator;
  so_far : map Ok l.scores.items ≡ l.yielded;
  room : length l.fn.found.items ≤ vec_capacity l.scores;
}
