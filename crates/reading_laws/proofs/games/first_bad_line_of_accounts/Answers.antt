use Rattle.reading_laws.proofs.AccountLaw.{account_law}
use Rattle.reading_laws.proofs.games.first_bad_line_of_accounts.Goals as goal

-- src/games.rt:15:1
pub returns : goal.returns
returns c = account_law
