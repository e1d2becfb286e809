use Rattle.std.proofs.Common.{◌≡◌, ◌++◌, length, vec_capacity}
use Rattle.std.specs.Vec.Iter.{into_iter_items}
use Rattle.floor.specs.Closing.{AreGivenBack}
use Rattle.floor.proofs.closing.close_all.Given as goal

abbrev pub invariant-loop-lock : goal.invariant-loop-lock
invariant-loop-lock l = record {
  rest : l.fn.locks.items ≡ l.yielded ++ into_iter_items l.lock-iterator;
  long : length l.room.items ≡ length l.yielded;
  room : vec_capacity l.room ≡ vec_capacity l.initial.room;
  given_back : AreGivenBack l.yielded l.room.items;
}
