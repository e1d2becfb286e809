use Rattle.std.proofs.Common.{◌≡◌, ◌*◌, take}
use Rattle.settlement.specs.Prelude.{dollars, IsWithin}
use Rattle.settlement.proofs.gains.gain_of_trades.Given as goal

abbrev pub invariant-loop-trade : goal.invariant-loop-trade
invariant-loop-trade l = record {
  value : l.sum ≡ dollars (take l.trade-index l.trades) l.party;
  small : IsWithin (16711425 * l.trade-index) l.sum;
}
