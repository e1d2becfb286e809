use Rattle.std.proofs.Common.{◌≡◌, ℕ, ◌<◌, ◌≤◌, ◌+ℤ◌, pos, slice_index_or, length}
use Rattle.tac_base.specs.Ranges.{IsNet}
use Rattle.trade_ledger.proofs.cash_book.add_nets.Given as goal

abbrev pub invariant-loop-party : goal.invariant-loop-party
invariant-loop-party l = record {
  nine : length l.totals ≡ 9;
  added : (k : ℕ) → k < l.party → slice_index_or l.totals k (pos 0) ≡ slice_index_or l.fn.totals k (pos 0) +ℤ slice_index_or l.fn.nets.dollars k (pos 0);
  later : (k : ℕ) → l.party ≤ k → slice_index_or l.totals k (pos 0) ≡ slice_index_or l.fn.totals k (pos 0);
  each : (k : ℕ) → k < l.party → IsNet (slice_index_or l.fn.nets.dollars k (pos 0));
}
