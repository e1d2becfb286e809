use Rattle.std.proofs.Common.{◌≡◌, ◌+◌, ◌++◌, length, take}
use Rattle.auction_rules.specs.BookStanding.{owned_by}
use Rattle.flight_auction.proofs.sales.place.Given as goal

abbrev pub invariant-loop-point : goal.invariant-loop-point
invariant-loop-point l = record {
  placed : l.standing.items ≡ l.fn.standing.items ++ owned_by l.agent (take l.point-index l.points);
  room : length l.standing.items ≡ length l.fn.standing.items + l.point-index;
}
