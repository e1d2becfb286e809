use Rattle.std.proofs.lemmas.Slice.Eq.{slice_eq-Decides}
use Rattle.log_audit.proofs.EqualTrades.{trade_decides}
use Rattle.log_audit.proofs.replaying.same_trades.Goals as goal

pub returns : goal.returns
returns c = slice_eq-Decides trade_decides c.args.a.now c.args.b.now _ c.eq.ensures
