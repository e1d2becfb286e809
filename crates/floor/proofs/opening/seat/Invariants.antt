use Rattle.std.proofs.Common.{◌≡◌, [], ◌++◌, map, All}
use Rattle.std.specs.Vec.Iter.{into_iter_items}
use Rattle.floor.specs.Desks.{desk_steps}
use Rattle.floor.proofs.opening.seat.Given as goal

abbrev pub invariant-loop-cash : goal.invariant-loop-cash
invariant-loop-cash l = record {
  dealt : l.fn.hands.items ≡ map (λ d. d.passes) l.desks.items ++ into_iter_items l.hands;
  rest : l.fn.passes.items ≡ map (λ d. d.cash) l.desks.items ++ into_iter_items l.cash-iterator;
  steps : All (λ d. desk_steps d ≡ []) l.desks.items;
}
