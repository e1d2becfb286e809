use Rattle.std.proofs.Common.{◌≡◌, ◌≤◌, ◌++◌, map, length, vec_len, vec_capacity, option_map}
use Rattle.std.specs.Vec.Iter.{into_iter_items}
use Rattle.tac_io.specs.Lines.{link_of}
use Rattle.game_run.proofs.session_ends.without_sessions.Given as goal

abbrev pub invariant-loop-lines : goal.invariant-loop-lines
invariant-loop-lines g l = record {
  rest : l.fn.seated.items ≡ l.yielded ++ into_iter_items l.lines-iterator;
  given : l.links.items ≡ map (option_map link_of) l.yielded;
  count : vec_len l.links ≡ length l.yielded;
  room : vec_len l.fn.seated ≤ vec_capacity l.links;
}
