use Rattle.log_reader.proofs.EntryCases.{call_fit}
use Rattle.log_reader.proofs.entries.call_at.Goals as goal

pub returns-clause-fit : goal.returns-clause-fit
returns-clause-fit c = call_fit c.number.result c.bytes.result.now c.entry_of.result c.in_ok-called.called c.entry_of.ensures c.in_ok-called.ensures
