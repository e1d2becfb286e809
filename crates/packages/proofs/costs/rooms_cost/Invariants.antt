use Rattle.std.proofs.Common.{◌≡◌, ◌≤◌, ◌*◌, ◌+◌}
use Rattle.tac_base.specs.declared.limits.TheConstants.{DUAL_PRICE}
use Rattle.packages.specs.Costs.{rooms_price}
use Rattle.packages.proofs.costs.rooms_cost.Given as goal

abbrev pub invariant-loop-night : goal.invariant-loop-night
invariant-loop-night l = record {
  sum : l.total ≡ rooms_price l.prices l.hotel l.arrive l.night;
  few : l.total + DUAL_PRICE ≤ DUAL_PRICE * l.night;
}
