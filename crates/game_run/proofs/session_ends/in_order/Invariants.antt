use Rattle.std.proofs.Common.{◌≡◌, ℕ, ◌≤◌, ◌++◌, Some, length, vec_len, vec_capacity, slice_get}
use Rattle.std.specs.Vec.Iter.{into_iter_items}
use Rattle.game_run.specs.SeatedLinks.{AreFilled, AreLinksOf}
use Rattle.game_run.proofs.session_ends.in_order.Given as goal

abbrev pub invariant-loop-holder : goal.invariant-loop-holder
invariant-loop-holder g l = record {
  rest : l.fn.holders.items ≡ l.yielded ++ into_iter_items l.holder-iterator;
  filled : AreFilled l.agent_seats.items (into_iter_items l.holder-iterator);
  given : AreLinksOf l.fn.agent_seats.items l.yielded l.links.items;
  same : (agent : ℕ) (link : g.row.L.Denot) → slice_get l.agent_seats.items agent ≡ Some (Some link) → slice_get l.fn.agent_seats.items agent ≡ Some (Some link);
  count : vec_len l.links ≡ length l.yielded;
  room : vec_len l.fn.holders ≤ vec_capacity l.links;
}
