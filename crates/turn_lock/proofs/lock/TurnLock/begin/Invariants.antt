use Rattle.std.proofs.Common.{◌≡◌, ℕ, ◌≤◌, [], length, slice_index, vec_capacity, Some}
use mathlib.Core.Option.{some}
use lib.ListN.{get_elem?}
use Rattle.turn_lock.specs.{own_view, fresh_pass}
use Rattle.turn_lock.specs.Passes.{passes_of, returned_to, start_of}
use Rattle.turn_lock.proofs.lock.TurnLock.begin.Given as goal

abbrev pub invariant-loop-i : goal.invariant-loop-i
invariant-loop-i g l = record {
  table : l.lock.table ≡ l.initial.lock.table;
  origin : (own_view l.lock.own.badge.views).start ≡ Some (start_of l.lock);
  made : passes_of l.lock ≡ l.i;
  returned : returned_to l.lock ≡ [];
  count : length l.passes.items ≡ l.i;
  room : length l.limits ≤ vec_capacity l.passes;
  each : (k : ℕ) (p : _) → get_elem? l.passes.items k ≡ some p →
      (p.seat.table_id ≡ l.lock.table.shared.table_id) × (p.caller ≡ k) × (p.left ≡ slice_index l.limits k) × (p.seat.me.0 ≡ fresh_pass (Some (start_of l.lock)) k);
}
