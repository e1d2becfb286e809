use Rattle.log_text.specs.LogText.{trade_line}
use Rattle.game_log.specs.Gathering.{GathersWhole}
use Rattle.game_log.proofs.Writing.{texts_before}
use Rattle.game_log.proofs.play_part.write_trades.Given as goal

abbrev pub invariant-loop-trade : goal.invariant-loop-trade
invariant-loop-trade g l = GathersWhole (texts_before trade_line l.trades l.trade-index) l.fn.gathered l.gathered (g.K.Sink.state l.fn.sink) (g.K.Sink.state l.sink)
