use Rattle.std.proofs.Common.{◌≡◌}
use Rattle.script_run.specs.OneThreadRun.{ticked_often}
use Rattle.script_run.proofs.game.table.Table.finish.Given as goal

abbrev pub invariant-loop-made : goal.invariant-loop-made
invariant-loop-made l = (l.self.game ≡ l.fn.self.game) × (l.self.state ≡ ticked_often l.fn.self.game l._made l.fn.self.state)
