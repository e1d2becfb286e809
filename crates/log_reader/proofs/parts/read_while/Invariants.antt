use Rattle.std.proofs.Common.{◌≡◌, ◌-◌}
use Rattle.log_reader.specs.LogReading.{as_long_as}
use Rattle.text_forms.proofs.Repeats.{with_front}
use Rattle.log_reader.proofs.parts.read_while.Given as goal

abbrev pub invariant-loop-number : goal.invariant-loop-number
invariant-loop-number g l = with_front l.values.items (as_long_as l.word (g.P.LogPart.gives l.part) (l.most - l.number) l.number l.left) ≡ as_long_as l.word (g.P.LogPart.gives l.part) l.most 0 l.fn.lines
