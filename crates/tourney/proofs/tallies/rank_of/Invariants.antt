use Rattle.std.proofs.Common.{◌≡◌, ◌≤◌, ◌+◌, count_by, take}
use Rattle.std.specs.Map.{values_of}
use Rattle.tourney.specs.Tallies.{is_over}
use Rattle.tourney.proofs.tallies.rank_of.Given as goal

abbrev pub invariant-loop-place : goal.invariant-loop-place
invariant-loop-place l = record {
  value : l.rank ≡ 1 + count_by (is_over l.tally) (take l.place (values_of l.tallies.entries));
  few : l.rank ≤ 1 + l.place;
}
