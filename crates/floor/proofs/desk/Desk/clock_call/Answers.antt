use Rattle.floor.proofs.Desks.{clock_room}
use Rattle.floor.proofs.desk.Desk.clock_call.Goals as goal

pub call-requires-clause-cash_left : goal.call-requires-clause-cash_left
call-requires-clause-cash_left g c = clock_room c.args.self.now.kept c.requires.clock c.requires.all_left
