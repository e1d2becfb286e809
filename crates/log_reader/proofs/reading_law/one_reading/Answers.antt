use Rattle.std.proofs.Common.{append_assoc}
use Rattle.log_text.specs.{first_lines, histories_of, histories_text, sheet_part}
use Rattle.log_reader.proofs.LogTaking.{log_is}
use Rattle.log_reader.proofs.SheetGiving.{log_given}
use Rattle.log_reader.proofs.reading_law.one_reading.Goals as goal

pub returns-clause-found : goal.returns-clause-found
returns-clause-found c = λ text log read. let is = log_is text log read in (is.same, is.range)

pub returns-clause-only : goal.returns-clause-only
returns-clause-only c = λ log is short. log_given log is short

pub returns-clause-game : goal.returns-clause-game
returns-clause-game c = λ head game sheet. append_assoc (first_lines head) (histories_text (histories_of game) game.cash) (sheet_part sheet)
