use Rattle.std.proofs.Common.{length}
use Rattle.script_run.proofs.Running.{IsRunning}
use Rattle.script_run.proofs.hotel.script.run_lines.Given as goal

abbrev pub invariant-loop-line : goal.invariant-loop-line
invariant-loop-line l = IsRunning l.script l.rest l.run

abbrev pub decreases-loop-line : goal.decreases-loop-line
decreases-loop-line l = length l.rest
