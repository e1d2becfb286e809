use Rattle.std.proofs.Common.{◌≡◌, ◌++◌, map}
use Rattle.std.specs.Vec.Iter.{into_iter_items}
use Rattle.floor.specs.Desks.{desk_ids, desk_caller}
use Rattle.link_tests.proofs.floors.bid_at_once.Given as goal

abbrev pub invariant-loop-desk : goal.invariant-loop-desk
invariant-loop-desk g l = record {
  ids : map (λ d. desk_ids d) l.all.items ++ map (λ d. desk_ids d) (into_iter_items l.desk-iterator) ≡ map (λ d. desk_ids d) l.initial.all.items ++ map (λ d. desk_ids d) (into_iter_items l.initial.desk-iterator);
  callers : map (λ d. desk_caller d) l.all.items ++ map (λ d. desk_caller d) (into_iter_items l.desk-iterator) ≡ map (λ d. desk_caller d) l.initial.all.items ++ map (λ d. desk_caller d) (into_iter_items l.initial.desk-iterator);
}
