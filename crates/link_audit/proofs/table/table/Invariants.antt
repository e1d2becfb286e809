use Rattle.std.proofs.Common.{◌≡◌, ℕ, ◌<◌, ◌≤◌, length, map, vec_len, vec_capacity}
use Rattle.link_audit.specs.Prelude.{AUCTION_ENTRIES, logged_history}
use Rattle.link_audit.proofs.Prefixes.{AreRows}
use Rattle.link_audit.proofs.table.table.Given as goal

abbrev pub invariant-loop-number : goal.invariant-loop-number
invariant-loop-number l = record {
  rows_are : AreRows l.game l.log l.number (map (λ row. row.items) l.rows.items);
  count : vec_len l.rows ≡ l.number;
  room : 28 ≤ vec_capacity l.rows;
  few : (good : ℕ) → good < l.number → length (logged_history l.log good) ≤ AUCTION_ENTRIES;
}
