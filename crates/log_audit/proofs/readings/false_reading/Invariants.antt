use Rattle.std.proofs.Common.{ℕ, ◌<◌, ◌*◌, take}
use Rattle.log_audit.specs.{cash_total, IsWithin, HasTrueReading, AreTotals}
use Rattle.log_audit.proofs.readings.false_reading.Given as goal

abbrev pub invariant-loop-position : goal.invariant-loop-position
invariant-loop-position l = record {
  right : (k : ℕ) → k < l.position → HasTrueReading l.cash k;
  totals : AreTotals (take l.position l.cash) l.totals;
  small : (party : ℕ) → party < 9 → IsWithin (l.position * 2147483648) (cash_total (take l.position l.cash) party);
}
