use Rattle.std.proofs.Common.{◌≡◌, take}
use Rattle.tac_base.proofs.bids.Points.new.Given as goal

abbrev pub invariant-loop-point : goal.invariant-loop-point
invariant-loop-point l = l.draft ≡ take l.point-index l.list
