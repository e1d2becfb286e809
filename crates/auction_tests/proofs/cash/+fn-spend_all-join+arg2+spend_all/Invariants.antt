use Rattle.std.proofs.Common.{◌+◌, ◌*◌, length}
use Rattle.auction_tests.proofs.cash.+fn-spend_all-join+arg2+spend_all.Given as goal

abbrev pub decreases-join+arg2 : goal.decreases-join+arg2
decreases-join+arg2 g l = 2 * length l.others.items + 1

abbrev pub decreases-spend_all : goal.decreases-spend_all
decreases-spend_all g l = 2 * length l.passes.items
