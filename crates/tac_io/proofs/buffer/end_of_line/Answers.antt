use Rattle.tac_io.proofs.LineEnds.{no_end-more}
use Rattle.tac_io.proofs.buffer.end_of_line.Goals as goal

pub loop-i-preserved : goal.loop-i-preserved
loop-i-preserved c = no_end-more c.args.bytes.now c.loop-i.i c.loop-i-test.true c.if-byte-eq10.false c.loop-i.invariant
