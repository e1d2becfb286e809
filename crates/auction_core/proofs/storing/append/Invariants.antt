use Rattle.std.proofs.Common.{◌≡◌, ◌+◌, ◌++◌, take, vec_len, vec_capacity}
use Rattle.auction_core.proofs.storing.append.Given as goal

abbrev pub invariant-loop-trade : goal.invariant-loop-trade
invariant-loop-trade l = record {
  items : l.trades.items ≡ l.fn.trades.items ++ take l.trade-index l.more;
  len : vec_len l.trades ≡ vec_len l.fn.trades + l.trade-index;
  capacity : vec_capacity l.trades ≡ vec_capacity l.fn.trades;
}
