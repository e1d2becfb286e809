use Rattle.tourney.proofs.OneText.{one_list, one_text}
use Rattle.tourney.proofs.law.one_standings.Goals as goal

pub returns-clause-rows : goal.returns-clause-rows
returns-clause-rows c = one_list

pub returns-clause-text : goal.returns-clause-text
returns-clause-text c = one_text
