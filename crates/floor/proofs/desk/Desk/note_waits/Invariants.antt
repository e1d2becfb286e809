use Rattle.floor.specs.Steps.{WaitsNoted}
use Rattle.floor.proofs.desk.Desk.note_waits.Given as goal

abbrev pub ghost-take_step : goal.ghost-take_step
ghost-take_step g a = WaitsNoted (g.T.Ticker.state a._of.now).waited
