use Rattle.std.proofs.Common.{◌≡◌, ◌*◌, ◌≤◌, take, sum_by}
use Rattle.auction_rules.specs.Effects.{buys_by}
use Rattle.auction_core.proofs.effects.paid.Given as goal

abbrev pub invariant-loop-trade : goal.invariant-loop-trade
invariant-loop-trade l = record {
  value : l.dollars ≡ sum_by (λ t. t.units * t.price) (buys_by (take l.trade-index l.trades) l.number);
  small : l.dollars ≤ 16711425 * l.trade-index;
}
