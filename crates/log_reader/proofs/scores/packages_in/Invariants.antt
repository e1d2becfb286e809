use Rattle.std.proofs.Common.{◌≡◌, ◌-◌, length, take}
use Rattle.text_forms.specs.Steps.{repeat}
use Rattle.text_forms.proofs.Repeats.{with_front}
use Rattle.log_reader.specs.{package_of, line_by}
use Rattle.log_reader.proofs.scores.packages_in.Given as goal

abbrev pub invariant-loop-client : goal.invariant-loop-client
invariant-loop-client l = record {
  count : length l.packages ≡ 8;
  left : with_front (take l.client l.packages) (repeat (length l.packages - l.client) l.client (λ client. line_by (package_of l.agent client)) l.left) ≡ repeat 8 0 (λ client. line_by (package_of l.agent client)) l.fn.lines;
}
