use Rattle.std.proofs.Common.{◌≡◌, map, take, length, pos}
use Rattle.bound_cert.proofs.printing.leaf_numbers.Given as goal

abbrev pub invariant-loop-good : goal.invariant-loop-good
invariant-loop-good l = record {
  count : length l.numbers ≡ length l.prices;
  written : take l.good l.numbers ≡ map pos (take l.good l.prices);
}
