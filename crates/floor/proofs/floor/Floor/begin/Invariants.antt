use Rattle.std.proofs.Common.{◌≡◌, ◌≤◌, [], map, length, replicate}
use Rattle.std.specs.List.{range_with_len}
use Rattle.floor.specs.{cap, AuctionHistory, setup_of, lock_id, start_of, passes_of, returned_to, AreFresh}
use Rattle.floor.proofs.floor.Floor.begin.Given as goal

abbrev pub invariant-loop-number : goal.invariant-loop-number
invariant-loop-number l = record {
  bound : l.number ≤ 28;
  nine : length l.hands.items ≡ 9;
  starts : map (λ lock. start_of lock) l.auctions.items ≡ map {B = AuctionHistory} (λ good. record { setup = setup_of good l.game; history = [] }) (range_with_len 0 l.number);
  passes : map (λ lock. passes_of lock) l.auctions.items ≡ replicate l.number 9;
  returned : map (λ lock. returned_to lock) l.auctions.items ≡ replicate l.number [];
  fresh : AreFresh (map (λ lock. lock_id lock) l.auctions.items) cap (map (λ hand. hand.items) l.hands.items);
}
