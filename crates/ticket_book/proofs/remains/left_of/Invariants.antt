use Rattle.std.proofs.Common.{◌≡◌, ◌+◌, ◌≤◌, ◌++◌, length, drop}
use Rattle.ticket_book.specs.{total_size, left_points, both}
use Rattle.ticket_book.proofs.remains.left_of.Given as goal

-- what is left of the points so far, and of the others, is all that is left
abbrev pub invariant-loop-point : goal.invariant-loop-point
invariant-loop-point l = record {
  numbered : l.from + total_size (drop l.point-index l.point-items) ≤ 16;
  few : length l.left.items ≤ l.point-index;
  points : l.left.items ++ left_points (both l.standing) l.bid.agent l.bid.position l.from (drop l.point-index l.point-items) ≡ left_points (both l.standing) l.bid.agent l.bid.position 0 l.point-items;
}
