use Rattle.std.proofs.Common.{◌≡◌, length, take, All}
use Rattle.game_text.specs.Accounts.{IsHolding}
use Rattle.settlement.specs.Settlement.{holdings_of}
use Rattle.settlement.proofs.settling.holdings_after.Given as goal

abbrev pub invariant-loop-good : goal.invariant-loop-good
invariant-loop-good l = record {
  count : length l.held ≡ 28;
  filled : take l.good l.held ≡ holdings_of (take l.good l.auctions) l.party;
  range : All IsHolding (take l.good l.held);
}
