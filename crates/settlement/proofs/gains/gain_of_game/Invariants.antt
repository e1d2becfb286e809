use Rattle.std.proofs.Common.{◌≡◌, ◌*◌, take}
use Rattle.settlement.specs.Settlement.{cash_gained}
use Rattle.trade_ledger.specs.CashKeeping.{IsWithin}
use Rattle.settlement.proofs.gains.gain_of_game.Given as goal

abbrev pub invariant-loop-auction : goal.invariant-loop-auction
invariant-loop-auction l = record {
  value : l.sum ≡ cash_gained (take l.auction-index l.auctions) l.party;
  small : IsWithin (35182228824000 * l.auction-index) l.sum;
}
