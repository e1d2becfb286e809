use Rattle.std.proofs.Common.{◌≡◌, take}
use Rattle.flight_auction.specs.Book as spec
use Rattle.flight_auction.proofs.sales.points_of.Given as goal

abbrev pub invariant-loop-one : goal.invariant-loop-one
invariant-loop-one l = l.points.items ≡ spec.agents_points l.number (take l.one-index l.standing)
