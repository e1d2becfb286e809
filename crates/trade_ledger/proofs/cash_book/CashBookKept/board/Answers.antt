use Rattle.std.proofs.Common.{arith, subst}
use Rattle.trade_ledger.specs.CashHistory.{IsLegalCash}
use Rattle.trade_ledger.proofs.CashSteps.{few_entries}
use Rattle.trade_ledger.proofs.cash_book.CashBookKept.board.Goals as goal

pub overflow_cast-result : goal.overflow_cast-result
overflow_cast-result c =
    let entries = c.self.inside.entries in let few = few_entries entries.items c.self.invariant.called c.self.invariant.capped in
    record { fits = omega (arith, c.len.ensures, entries.ok.0, few) }

pub returns-clause-small : goal.returns-clause-small
returns-clause-small c =
    let entries = c.self.inside.entries in let few = few_entries entries.items c.self.invariant.called c.self.invariant.capped in
    (omega (arith, c.len.ensures, entries.ok.0, few), omega arith, omega arith)

pub returns-clause-legal : goal.returns-clause-legal
returns-clause-legal c = subst IsLegalCash c.self.view_is c.self.invariant.legal
