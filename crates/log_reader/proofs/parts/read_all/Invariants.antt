use Rattle.std.proofs.Common.{◌≡◌, ◌-◌}
use Rattle.text_forms.specs.Steps.{repeat}
use Rattle.text_forms.proofs.Repeats.{with_front}
use Rattle.log_reader.proofs.parts.read_all.Given as goal

abbrev pub invariant-loop-number : goal.invariant-loop-number
invariant-loop-number g l = with_front l.values.items (repeat (l.count - l.number) l.number (g.P.LogPart.gives l.part) l.left) ≡ repeat l.count 0 (g.P.LogPart.gives l.part) l.fn.lines
