use Rattle.std.proofs.Common.{◌≡◌, ◌+◌, ◌≤◌, length, take, vec_len, vec_capacity}
use Rattle.auction_core.specs.Setups.{setup_of}
use Rattle.link_audit.specs.Ahead.{AreRow}
use Rattle.link_audit.proofs.table.row_of.Given as goal

abbrev pub invariant-loop-position : goal.invariant-loop-position
invariant-loop-position l = record {
  setup : l.auction.setup ≡ setup_of l.fn.good l.game;
  history_is : l.auction.history ≡ take l.position l.history;
  row_is : AreRow l.game l.fn.good l.history l.position l.row.items;
  count : vec_len l.row ≡ l.position + 1;
  room : length l.history + 1 ≤ vec_capacity l.row;
}
