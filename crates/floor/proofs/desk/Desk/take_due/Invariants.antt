use Rattle.floor.specs.Steps.{DueTaken}
use Rattle.floor.proofs.desk.Desk.take_due.Given as goal

abbrev pub ghost-take_step : goal.ghost-take_step
ghost-take_step g a = DueTaken g.T.Ticker.mark a._of.now
