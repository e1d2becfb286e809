use Rattle.std.proofs.Common.{◌≡◌, length}
use Rattle.bid_strings.specs.BidForm as bid_form
use Rattle.bid_strings.proofs.Fronts.{with_front}
use Rattle.bid_strings.proofs.reading.points_in.Given as goal

abbrev pub invariant-loop-left : goal.invariant-loop-left
invariant-loop-left l = with_front l.draft (bid_form.points_from l.words) ≡ bid_form.points_from l.fn.words

abbrev pub decreases-loop-left : goal.decreases-loop-left
decreases-loop-left l = length l.words
