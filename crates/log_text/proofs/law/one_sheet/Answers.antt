use Rattle.log_text.proofs.SheetsAgain.{sheet_same}
use Rattle.log_text.proofs.law.one_sheet.Goals as goal

pub returns : goal.returns
returns c = sheet_same
