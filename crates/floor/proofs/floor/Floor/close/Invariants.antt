use Rattle.std.proofs.Common.{◌≡◌, ◌++◌, fold, map}
use Rattle.std.specs.Vec.Iter.{into_iter_items}
use Rattle.turn_lock.specs.Passes.{lock_id, start_of, passes_of, returned_to, returned_by}
use Rattle.floor.specs.Rows.{with_each}
use Rattle.floor.proofs.floor.Floor.close.Given as goal

abbrev pub invariant-loop-desk : goal.invariant-loop-desk
invariant-loop-desk l = record {
  rest : l.fn.desks.items ≡ l.yielded ++ into_iter_items l.desk-iterator;
  ids : map (λ lock. lock_id lock) l.auctions.items ≡ map (λ lock. lock_id lock) l.initial.auctions.items;
  starts : map (λ lock. start_of lock) l.auctions.items ≡ map (λ lock. start_of lock) l.initial.auctions.items;
  passes : map (λ lock. passes_of lock) l.auctions.items ≡ map (λ lock. passes_of lock) l.initial.auctions.items;
  returned : map (λ lock. returned_to lock) l.auctions.items
      ≡ fold (λ rows d. with_each rows (map (λ p. returned_by p) d.passes.items)) (map (λ lock. returned_to lock) l.initial.auctions.items) l.yielded;
  cash_same : (lock_id l.cash ≡ lock_id l.initial.cash) × (passes_of l.cash ≡ passes_of l.initial.cash);
  cash_returned : returned_to l.cash ≡ returned_to l.initial.cash ++ map (λ d. returned_by d.cash) l.yielded;
}
