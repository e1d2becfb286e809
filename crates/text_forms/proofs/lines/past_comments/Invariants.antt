use Rattle.std.proofs.Common.{◌≡◌, ◌+◌, ◌^◌, ◌<◌, length}
use Rattle.text_forms.specs.{lines_from, parts_of}
use Rattle.text_forms.proofs.lines.past_comments.Given as goal

abbrev pub invariant-loop-line : goal.invariant-loop-line
invariant-loop-line l = record {
  small : l.number + length l.rest < 2 ^ 32;
  left : lines_from l.skips_comments l.number (parts_of 10 l.rest) ≡ lines_from l.skips_comments l.number-2 (parts_of 10 l.text);
}

abbrev pub decreases-loop-line : goal.decreases-loop-line
decreases-loop-line l = length l.rest
