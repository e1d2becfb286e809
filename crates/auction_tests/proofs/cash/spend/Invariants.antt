use Rattle.std.proofs.Common.{◌≡◌, ◌+◌}
use Rattle.turn_lock.specs.Passes.{lock_of, turns_left}
use Rattle.auction_tests.proofs.cash.spend.Given as goal

abbrev pub invariant-loop-position : goal.invariant-loop-position
invariant-loop-position g l = record {
  own : lock_of l.pass ≡ lock_of l.initial.pass;
  left : turns_left l.pass + l.position ≡ turns_left l.initial.pass;
  end : l.position-end ≡ turns_left l.initial.pass;
}
