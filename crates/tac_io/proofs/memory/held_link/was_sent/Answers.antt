use Rattle.std.proofs.Common.{arith}
use Rattle.tac_io.proofs.Looks.{saw_fewer}
use Rattle.tac_io.proofs.memory.held_link.was_sent.Goals as goal

pub loop-preserved : goal.loop-preserved
loop-preserved g c = saw_fewer _ _ _ _ _ _ _ c.loop.invariant c.look.ensures (omega (arith, c.if-look-lines.false))
