use Rattle.std.proofs.Common.{◌≡◌, take}
use Rattle.trade_ledger.specs.Holdings.{held_after}
use Rattle.auction_core.proofs.effects.apply_all.Given as goal

abbrev pub invariant-loop-trade : goal.invariant-loop-trade
invariant-loop-trade l = l.held ≡ held_after l.fn.held (take l.trade-index l.trades)
