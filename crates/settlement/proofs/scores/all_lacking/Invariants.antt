use Rattle.std.proofs.Common.{◌≡◌, ◌*◌, ◌≤◌, take, sum_by}
use Rattle.settlement.specs.Score.{lacking}
use Rattle.settlement.proofs.scores.all_lacking.Given as goal

abbrev pub invariant-loop-holding : goal.invariant-loop-holding
invariant-loop-holding l = record {
  value : l.units ≡ sum_by lacking (take l.holding-index l.holdings);
  small : l.units ≤ 200000 * l.holding-index;
}
