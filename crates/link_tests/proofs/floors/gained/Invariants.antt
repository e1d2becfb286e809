use Rattle.std.proofs.Common.{◌≡◌, length}
use Rattle.link_tests.proofs.floors.gained.Given as goal

abbrev pub invariant-loop-position : goal.invariant-loop-position
invariant-loop-position l = l.position-end ≡ length l.auction.history
