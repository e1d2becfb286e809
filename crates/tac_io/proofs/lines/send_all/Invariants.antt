use Rattle.std.proofs.Common.{length, ◌-◌, ◌≡◌, ◌≤◌, take}
use Rattle.tac_io.specs.{NoWriteFails, ReadsNothing, known_then}
use Rattle.tac_io.proofs.lines.send_all.Given as goal

abbrev pub invariant-loop-done : goal.invariant-loop-done
invariant-loop-done g l = record {
  within : l.done ≤ length l.bytes;
  sent : (g.L.Link.state l.link).sent ≡ known_then (g.L.Link.state l.fn.link).sent (take l.done l.bytes);
  quiet : NoWriteFails (g.L.Link.state l.fn.link) (g.L.Link.state l.link);
  read : ReadsNothing (g.L.Link.state l.fn.link) (g.L.Link.state l.link);
}

abbrev pub decreases-loop-done : goal.decreases-loop-done
decreases-loop-done g l = length l.bytes - l.done
