use Rattle.std.proofs.Common.{◌≡◌, ℕ, ◌<◌, ◌^◌, pos, negsuc, ◌-ℤ◌, ◌≤ℤ◌, get_or}
use Rattle.relaxation.specs.Tables.{dollars_at}
use Rattle.dual_bound.proofs.quotes.most.Given as goal

abbrev pub invariant-loop-number : goal.invariant-loop-number
invariant-loop-number l = record {
  bound : (n : ℕ) → n < l.number → (dollars_at l.left.dollars l.client n -ℤ pos (get_or l.costs n 0)) ≤ℤ l.most;
  reached : (n : ℕ) × (n < 393) × (l.most ≡ dollars_at l.left.dollars l.client n -ℤ pos (get_or l.costs n 0));
  low : negsuc (2 ^ 33) ≤ℤ l.most;
  high : l.most ≤ℤ pos (2 ^ 33);
}
