use Rattle.std.proofs.Common.{◌≡◌, take, length}
use Rattle.log_reader.proofs.line_forms.entries.nets_of.Given as goal

abbrev pub invariant-loop-party : goal.invariant-loop-party
invariant-loop-party l = record {
  count : length l.dollars ≡ 9;
  written : take l.party l.dollars ≡ take l.party l.numbers;
}
