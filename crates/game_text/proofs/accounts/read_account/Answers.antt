use Rattle.std.proofs.Common.{◌∙◌}
use Rattle.game_text.proofs.AccountLaws.{if_read, only_account, too_long}
use Rattle.game_text.proofs.accounts.read_account.Goals as goal

pub returns-clause-found : goal.returns-clause-found
returns-clause-found c = if_read c.args.text.now c.account_of.result c.account_of.ensures

pub returns-clause-only : goal.returns-clause-only
returns-clause-only c = λ account size are is. c.account_of.ensures ∙ only_account c.args.text.now account size are is

pub returns-clause-too_long : goal.returns-clause-too_long
returns-clause-too_long c = too_long c.args.text.now c.account_of.result c.account_of.ensures
