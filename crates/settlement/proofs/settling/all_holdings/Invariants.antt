use Rattle.std.proofs.Common.{◌≡◌, length, take, map, All}
use Rattle.tac_base.specs.Goods.{agents}
use Rattle.settlement.specs.{holdings_of, AreHoldings}
use Rattle.settlement.proofs.settling.all_holdings.Given as goal

abbrev pub invariant-loop-number : goal.invariant-loop-number
invariant-loop-number l = record {
  count : length l.holdings ≡ 8;
  filled : take l.number l.holdings ≡ map (holdings_of l.auctions) (take l.number agents);
  range : All AreHoldings (take l.number l.holdings);
}
