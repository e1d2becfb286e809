use Rattle.std.proofs.Common.{◌≡◌, ◌≤◌, [], map, replicate}
use Rattle.floor.proofs.opening.empty_hands.Given as goal

abbrev pub invariant-loop : goal.invariant-loop
invariant-loop l = record {
  bound : l.counter ≤ 9;
  empty : map (λ hand. hand.items) l.hands.items ≡ replicate l.counter [];
}
