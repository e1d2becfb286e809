use Rattle.log_text.proofs.Histories.{parts_same}
use Rattle.log_text.proofs.law.one_game.Goals as goal

pub returns : goal.returns
returns c = parts_same
