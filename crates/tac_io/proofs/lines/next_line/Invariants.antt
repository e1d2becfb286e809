use Rattle.std.proofs.Common.{◌≡◌, ◌≤◌, ◌-◌, ◌^◌}
use Rattle.tac_io.specs.{IsDecided, NoReadFails, SendsNothing}
use Rattle.tac_io.proofs.NextLine.{IsGoing}
use Rattle.tac_io.proofs.lines.next_line.Given as goal

abbrev pub invariant-bytes : goal.invariant-bytes
invariant-bytes g l = record {
  going : IsGoing (record { held = l.fn.buffer; count = l.fn.taken; link = g.L.Link.state l.fn.link }) l.long l.buffer.unread l.taken (g.L.Link.state l.link);
  budget : l.taken ≤ 2 ^ 26;
  decided : IsDecided l.fn.buffer.unread l.fn.taken → l.link ≡ l.fn.link;
  quiet : NoReadFails (g.L.Link.state l.fn.link) (g.L.Link.state l.link);
  sent : SendsNothing (g.L.Link.state l.fn.link) (g.L.Link.state l.link);
}

abbrev pub decreases-bytes : goal.decreases-bytes
decreases-bytes g l = 2 ^ 26 - l.taken
