use Rattle.std.proofs.Common.{Some, ap, ◌∙◌}
use Rattle.std.proofs.Math.Bridge.{le_prop}
use Rattle.tac_io.proofs.memory.held_link.HeldLink.answers.Goals as goal

pub returns-in-Some-clause-waits : goal.returns-in-Some-clause-waits
returns-in-Some-clause-waits g c held = record {
  hold = c.in-Some.hold;
  other = c.was_sent.new.count;
  held = c.in-Some.is;
  next = c.if-hold-next.true ∙ c.next_read-next.ensures;
  kept = ap (λ later. Some (record c.in-Some.hold { other = c.was_sent.new.count; later = later })) (le_prop _ _);
  saw = c.was_sent.ensures;
}
