use Rattle.floor.specs.Steps.{CallMade}
use Rattle.floor.proofs.desk.Desk.call.Given as goal

abbrev pub ghost-with_call : goal.ghost-with_call
ghost-with_call g a = CallMade a._good.now a._call.now
