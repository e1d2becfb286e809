use Rattle.std.proofs.Common.{◌≡◌, ◌-◌, length}
use Rattle.text_forms.specs.Steps.{repeat}
use Rattle.text_forms.proofs.Repeats.{with_front}
use Rattle.log_reader.specs.LogReading.{entry_in}
use Rattle.log_reader.proofs.histories.history_in.Given as goal

abbrev pub invariant-loop-i : goal.invariant-loop-i
invariant-loop-i l = record {
  same : with_front l.history (repeat (l.count - l._i) l._i (λ _. entry_in l.good) l.left) ≡ repeat l.count 0 (λ _. entry_in l.good) l.initial.left;
  count : length l.history ≡ l._i;
}
