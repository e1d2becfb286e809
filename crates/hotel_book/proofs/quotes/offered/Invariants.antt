use Rattle.std.proofs.Common.{◌≡◌, ◌≤◌, take}
use Rattle.auction_rules.specs.Refusals.{offered}
use Rattle.hotel_book.proofs.quotes.offered.Given as goal

abbrev pub invariant-loop-point : goal.invariant-loop-point
invariant-loop-point l = record {
  value : l.total ≡ offered (take l.point-index l.points) l.at;
  few : l.total ≤ 16;
}
