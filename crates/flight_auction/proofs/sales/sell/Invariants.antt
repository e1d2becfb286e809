use Rattle.std.proofs.Common.{◌≡◌, ◌≤◌, length, take}
use Rattle.flight_auction.specs.Book as spec
use Rattle.flight_auction.proofs.sales.sell.Given as goal

abbrev pub invariant-loop-one : goal.invariant-loop-one
invariant-loop-one l = record {
  trades : l.fills ≡ spec.sales l.good l.price (take l.one-index l.one-items);
  few : length l.fills ≤ l.one-index;
}
