use Rattle.std.proofs.Common.{◌≡◌, false, slice_range}
use Rattle.tac_io.specs.LineText.{has_end}
use Rattle.link_audit.proofs.lines.line_end.Given as goal

-- no line ends before the place
abbrev pub invariant-loop-place : goal.invariant-loop-place
invariant-loop-place l = has_end (slice_range l.bytes l.from l.place) ≡ false
