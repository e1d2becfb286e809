use Rattle.std.proofs.Common.{◌≡◌, ◌++◌, take, flat_map}
use Rattle.game_log.specs.LogText.{trade_line}
use Rattle.script_run.proofs.hotel.run.push_trades.Given as goal

abbrev pub invariant-loop-trade : goal.invariant-loop-trade
invariant-loop-trade l = l.text.items ≡ l.fn.text.items ++ flat_map trade_line (take l.trade-index l.trades)
