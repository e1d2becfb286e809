use Rattle.std.proofs.Common.{◌≤◌}
use Rattle.auction_tests.proofs.cash.posts_of.Given as goal

abbrev pub invariant-loop-position : goal.invariant-loop-position
invariant-loop-position l = l.count ≤ l.position
