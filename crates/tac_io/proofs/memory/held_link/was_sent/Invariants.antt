use Rattle.tac_io.specs.Looks.{SawFewer}
use Rattle.tac_io.proofs.memory.held_link.was_sent.Given as goal

abbrev pub invariant-loop : goal.invariant-loop
invariant-loop g l = SawFewer g.C.LineCount.shows l.fn.count l.count l.lines l.counter
