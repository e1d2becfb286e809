use Rattle.std.proofs.Common.{◌≢◌, arith}
use Rattle.floor.proofs.Desks.{reading_room}
use Rattle.floor.proofs.desk.Desk.cash.Goals as goal

pub read-position-requires-clause-left : goal.read-position-requires-clause-left
read-position-requires-clause-left g c =
    let kept = c.args.self.now.kept in let some : c.args.self.now.readings ≢ 1024 = λ e. c.if-self-eq-CASH_READINGS.false e in
    reading_room kept c.requires.agent (omega (arith, kept.few, some))
