use Rattle.std.proofs.Common.{◌≡◌, ◌+◌, length, All}
use Rattle.turn_lock.specs.Passes.{lock_of, lock_id, passes_of, returned_to}
use Rattle.auction_tests.proofs.cash.take_back.Given as goal

abbrev pub invariant-loop-pass : goal.invariant-loop-pass
invariant-loop-pass l = record {
  own : All (λ p. lock_of p ≡ lock_id l.lock) l.passes.items;
  made : passes_of l.lock ≡ passes_of l.initial.lock;
  returned : length (returned_to l.lock) + length l.passes.items ≡ length (returned_to l.initial.lock) + length l.initial.passes.items;
}

abbrev pub decreases-loop-pass : goal.decreases-loop-pass
decreases-loop-pass l = length l.passes.items
