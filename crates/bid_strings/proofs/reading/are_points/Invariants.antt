use Rattle.std.proofs.Common.{◌≡◌, length, is_some}
use Rattle.bid_strings.specs.BidForm as bid_form
use Rattle.bid_strings.proofs.reading.are_points.Given as goal

abbrev pub invariant-loop-left : goal.invariant-loop-left
invariant-loop-left l = is_some (bid_form.points_from l.words) ≡ is_some (bid_form.points_from l.fn.words)

abbrev pub decreases-loop-left : goal.decreases-loop-left
decreases-loop-left l = length l.words
