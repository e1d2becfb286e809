use Rattle.std.proofs.Common.{◌≡◌, map, take, length, unsigned_abs}
use Rattle.bound_cert.proofs.node_lines.prices_of.Given as goal

abbrev pub invariant-loop-good : goal.invariant-loop-good
invariant-loop-good l = record {
  count : length l.dollars ≡ length l.numbers;
  written : take l.good l.dollars ≡ map unsigned_abs (take l.good l.numbers);
}
