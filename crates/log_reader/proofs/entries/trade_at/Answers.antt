use Rattle.log_reader.proofs.EntryCases.{trade_some}
use Rattle.log_reader.proofs.entries.trade_at.Goals as goal

pub returns-clause-some : goal.returns-clause-some
returns-clause-some c = trade_some c.args.good c.number.result c.bytes.result.now c.trade_of.result c.in_ok-trade.trade c.trade_of.ensures c.in_ok-trade.ensures
