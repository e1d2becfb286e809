use Rattle.std.proofs.Common.{ℕ, ◌<◌, sym, subst}
use Rattle.trade_ledger.specs.declared.cash_calls.CashCall.{CashCall}
use Rattle.trade_ledger.specs.{gain_of, IsWithin}
use Rattle.trade_ledger.proofs.cash_book.settle.Goals as goal

pub returns-in-Post-clause-small : goal.returns-in-Post-clause-small
returns-in-Post-clause-small c = subst (λ (call : CashCall). (party : ℕ) → party < 9 → IsWithin 2147483648 (gain_of call party)) (sym c.in-Post.is) c.add_nets.ensures.small
