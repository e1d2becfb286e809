use Rattle.std.proofs.Common.{◌≡◌, ℕ, ◌<◌, ◌≤◌, length, map, take, vec_len, vec_capacity}
use Rattle.auction_core.specs.Setups.{setup_of}
use Rattle.log_audit.specs.{HasFairEntry, AreCounts, nets_by}
use Rattle.log_audit.proofs.replaying.play_again.Given as goal

abbrev pub invariant-loop-position : goal.invariant-loop-position
invariant-loop-position l = record {
  setup : l.auction.setup ≡ setup_of l.fn.good l.game;
  history_is : l.auction.history ≡ take l.position l.history;
  counted : AreCounts (take l.position l.history) l.counts;
  nets_are : l.nets.items ≡ take l.position (map nets_by l.history);
  count : vec_len l.nets ≡ l.position;
  room : length l.history ≤ vec_capacity l.nets;
  fair : (k : ℕ) → k < l.position → HasFairEntry (setup_of l.fn.good l.game) l.history k;
}
