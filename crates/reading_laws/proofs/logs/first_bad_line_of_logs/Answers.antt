use Rattle.reading_laws.proofs.LogLaw.{log_law}
use Rattle.reading_laws.proofs.logs.first_bad_line_of_logs.Goals as goal

-- src/logs.rt:8:1
pub returns : goal.returns
returns c = log_law
