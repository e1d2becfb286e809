use Rattle.std.proofs.Common.{◌≡◌, take, false}
use Rattle.tac_io.specs.LineText.{has_end}
use Rattle.tac_io.proofs.buffer.end_of_line.Given as goal

abbrev pub invariant-loop-i : goal.invariant-loop-i
invariant-loop-i l = has_end (take l.i l.bytes) ≡ false
