use Rattle.script_run.proofs.Tables.{IsTicking}
use Rattle.script_run.proofs.game.table.Table.clock_calls.Given as goal

abbrev pub invariant-loop-n : goal.invariant-loop-n
invariant-loop-n l = IsTicking l.fn.self.game l.fn.self.state l.tick l.n l.self
