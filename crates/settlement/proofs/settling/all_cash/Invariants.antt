use Rattle.std.proofs.Common.{◌≡◌, length, take, map, All}
use Rattle.settlement.specs.{agents, IsWithin, cash_gained}
use Rattle.settlement.proofs.settling.all_cash.Given as goal

abbrev pub invariant-loop-number : goal.invariant-loop-number
invariant-loop-number l = record {
  count : length l.cash ≡ 8;
  filled : take l.number l.cash ≡ map (cash_gained l.auctions) (take l.number agents);
  range : All (IsWithin 1000000000000000) (take l.number l.cash);
}
