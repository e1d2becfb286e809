use Rattle.std.proofs.Common.{◌≡◌, ◌++◌, map, length}
use Rattle.std.specs.Vec.Iter.{into_iter_items}
use Rattle.floor.specs.Rows.{with_each}
use Rattle.floor.proofs.opening.deal.Given as goal

abbrev pub invariant-loop-pass : goal.invariant-loop-pass
invariant-loop-pass l = record {
  count : l.caller ≡ length l.yielded;
  rest : l.fn.passes.items ≡ l.yielded ++ into_iter_items l.pass-iterator;
  dealt : map (λ hand. hand.items) l.hands.items ≡ with_each (map (λ hand. hand.items) l.initial.hands.items) l.yielded;
}
