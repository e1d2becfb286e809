use Rattle.std.proofs.Common.{◌≡◌, ◌+◌, ◌≤◌, ◌++◌, length, drop}
use Rattle.tac_base.specs.Bids.{total_size}
use Rattle.auction_rules.specs.Units.{units_from}
use Rattle.auction_rules.proofs.units.push_units.Given as goal

-- the units so far and those of the points that are left are all
abbrev pub invariant-loop-point : goal.invariant-loop-point
invariant-loop-point g l = record {
  numbered : l.from + total_size (drop l.point-index l.point-items) ≤ 16;
  room : length l.out.items ≡ length l.fn.out.items + l.from;
  units : l.out.items ++ units_from l.bid.agent l.bid.position l.from (drop l.point-index l.point-items) ≡ l.fn.out.items ++ units_from l.bid.agent l.bid.position 0 l.point-items;
}
