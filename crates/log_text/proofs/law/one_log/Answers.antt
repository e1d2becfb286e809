use Rattle.log_text.proofs.SheetsAgain.{log_same}
use Rattle.log_text.proofs.law.one_log.Goals as goal

pub returns : goal.returns
returns c = log_same
