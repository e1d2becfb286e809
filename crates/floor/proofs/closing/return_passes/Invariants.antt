use Rattle.std.proofs.Common.{◌≡◌, ◌++◌, map, length}
use Rattle.std.specs.Vec.Iter.{into_iter_items}
use Rattle.turn_lock.specs.Passes.{lock_id, start_of, passes_of, returned_to, returned_by}
use Rattle.floor.specs.Rows.{with_each}
use Rattle.floor.proofs.closing.return_passes.Given as goal

abbrev pub invariant-loop-pass : goal.invariant-loop-pass
invariant-loop-pass l = record {
  count : l.good ≡ length l.yielded;
  rest : l.fn.passes.items ≡ l.yielded ++ into_iter_items l.pass-iterator;
  ids : map (λ lock. lock_id lock) l.locks.items ≡ map (λ lock. lock_id lock) l.initial.locks.items;
  starts : map (λ lock. start_of lock) l.locks.items ≡ map (λ lock. start_of lock) l.initial.locks.items;
  passes : map (λ lock. passes_of lock) l.locks.items ≡ map (λ lock. passes_of lock) l.initial.locks.items;
  returned : map (λ lock. returned_to lock) l.locks.items ≡ with_each (map (λ lock. returned_to lock) l.initial.locks.items) (map (λ p. returned_by p) l.yielded);
}
