use Rattle.tac_io.proofs.ByBytes.{in_turn}
use Rattle.tac_io.proofs.lines.Lines.next.Goals as goal

pub returns-clause-in_turn : goal.returns-clause-in_turn
returns-clause-in_turn g c = in_turn _ _ _ c.next_line-got.ensures.answer c.next_line-got.ensures.budget
