use Rattle.std.proofs.Common.{length, ◌-◌, ◌≡◌, ◌≤◌, take}
use Rattle.tac_io.specs.Known.{known_then}
use Rattle.tac_io.proofs.writing.write_all.Given as goal

abbrev pub invariant-loop-done : goal.invariant-loop-done
invariant-loop-done g l = record {
  within : l.done ≤ length l.bytes;
  taken : (g.K.Sink.state l.sink).taken ≡ known_then (g.K.Sink.state l.fn.sink).taken (take l.done l.bytes);
  quiet : (g.K.Sink.state l.sink).faults ≡ (g.K.Sink.state l.fn.sink).faults;
  unmarked : (g.K.Sink.state l.sink).failures ≡ (g.K.Sink.state l.fn.sink).failures;
}

abbrev pub decreases-loop-done : goal.decreases-loop-done
decreases-loop-done g l = length l.bytes - l.done
