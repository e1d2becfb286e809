use Rattle.std.proofs.Common.{List, length, ap, arith}
use Rattle.trade_ledger.specs.declared.cash_calls.CashEntry.{CashEntry}
use Rattle.log_audit.proofs.auditing.cash_flaw.Goals as goal

pub false_reading-requires : goal.false_reading-requires
false_reading-requires c = let few = c.cash.ensures.whole.few_cash in omega (arith, few, ap (λ (l : List CashEntry). length l) c.cash.ensures.value)
