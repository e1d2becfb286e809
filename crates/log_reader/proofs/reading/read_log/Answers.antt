use Rattle.log_reader.proofs.LogTexts.{long_text, short_reading, found_if, only_log}
use Rattle.log_reader.proofs.reading.read_log.Goals as goal

pub returns-then-text-clause-exact : goal.returns-then-text-clause-exact
returns-then-text-clause-exact c = long_text c.args.text.now c.if-text.true

pub returns-then-text-clause-only : goal.returns-then-text-clause-only
returns-then-text-clause-only c = λ log is short same. only_log c.args.text.now log is short same

pub returns-clause-exact : goal.returns-clause-exact
returns-clause-exact c = short_reading c.args.text.now c.log_in.result c.if-text.false c.log_in.ensures

pub returns-clause-found : goal.returns-clause-found
returns-clause-found c = found_if c.args.text.now c.log_in.result c.log_in.ensures

pub returns-clause-only : goal.returns-clause-only
returns-clause-only c = λ log is short same. only_log c.args.text.now log is short same
