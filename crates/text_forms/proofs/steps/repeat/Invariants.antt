use Rattle.std.proofs.Common.{◌≡◌, ◌-◌, length, take}
use Rattle.text_forms.specs.Steps.{repeat}
use Rattle.text_forms.proofs.Repeats.{with_front}
use Rattle.text_forms.proofs.steps.repeat.Given as goal

abbrev pub invariant-loop-number : goal.invariant-loop-number
invariant-loop-number g l = record {
  count : length l.values ≡ length l.fn.values;
  left : with_front (take l.number l.values) (repeat (length l.values - l.number) l.number (g.P.Part.gives l.part) l.left) ≡ repeat (length l.fn.values) 0 (g.P.Part.gives l.part) l.fn.lines;
}
