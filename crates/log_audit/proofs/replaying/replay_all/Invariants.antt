use Rattle.std.proofs.Common.{◌≡◌, ℕ, ◌<◌, ◌≤◌, map, take, vec_len, vec_capacity}
use Rattle.log_audit.specs.{setup_of, logged_history, auctions_in, HasFairEntry, nets_by}
use Rattle.log_audit.proofs.replaying.replay_all.Given as goal

abbrev pub invariant-loop-number : goal.invariant-loop-number
invariant-loop-number l = record {
  auctions_are : l.auctions.items ≡ take l.number (auctions_in l.game l.log);
  nets_are : map (λ row. row.items) l.nets.items ≡ take l.number (map (map nets_by) l.log.histories);
  auctions_count : vec_len l.auctions ≡ l.number;
  nets_count : vec_len l.nets ≡ l.number;
  auction_room : 28 ≤ vec_capacity l.auctions;
  nets_room : 28 ≤ vec_capacity l.nets;
  fair : (good position : ℕ) → good < l.number → HasFairEntry (setup_of good l.game) (logged_history l.log good) position;
}
