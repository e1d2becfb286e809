use Rattle.std.proofs.Common.{◌≡◌, ◌+◌, ◌*◌, ◌≤◌, drop}
use Rattle.packages.specs.BestTotal.{total_of}
use Rattle.packages.proofs.allocations.allocation_worth.Given as goal

abbrev pub invariant-loop-number : goal.invariant-loop-number
invariant-loop-number l = record {
  sum : l.total + total_of (drop l.number l.account.clients) (drop l.number l.allocation) ≡ total_of l.account.clients l.allocation;
  few : l.total ≤ 1750 * l.number;
}
