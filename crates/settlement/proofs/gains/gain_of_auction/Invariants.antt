use Rattle.std.proofs.Common.{◌≡◌, ◌*◌, take, reverse}
use Rattle.settlement.specs.Prelude.{all_trades, dollars, IsWithin}
use Rattle.settlement.proofs.gains.gain_of_auction.Given as goal

abbrev pub invariant-loop-position : goal.invariant-loop-position
invariant-loop-position l = record {
  value : l.sum ≡ dollars (all_trades (reverse (take l.position l.auction.history))) l.party;
  small : IsWithin (4261413375 * l.position) l.sum;
}
