use Rattle.std.proofs.Common.{◌≡◌, ℕ, List, length, take, arith}
use Rattle.std.specs.List.{AllByRecursion}
use Rattle.std.proofs.lemmas.List.Elements.{recursion_from_All}
use Rattle.trade_ledger.specs.declared.cash_calls.CashCall.{CashCall}
use Rattle.trade_ledger.specs.declared.cash_calls.CashCall.TheVariants.{Post, Read}
use Rattle.trade_ledger.specs.declared.cash_calls.CashReply.{CashReply}
use Rattle.trade_ledger.specs.declared.cash_calls.CashReply.TheVariants.{Done, Cash}
use Rattle.game_log.specs.Prelude.{CashEntry, IsLoggableCash, FitsCall, IsCashEntry}
use Rattle.trade_ledger.specs.CashHistory.{IsFitCash, IsLegalCash, cash_reply_of}
use Rattle.log_text.proofs.Items.{both_all, all_from}
use Rattle.log_text.proofs.ShownNumbers.{number_is, cash_entry_is}
use Rattle.game_log.proofs.known.cash_known.Goals as goal

-- an entry of a legal history has a reply that goes with its call
legal_fits : (caller : ℕ) (call : CashCall) (reply : CashReply) (before : List CashEntry) → IsFitCash caller call → reply ≡ cash_reply_of before call → FitsCall caller call reply
legal_fits caller (Post good position nets) Done before fit is = tt
legal_fits caller (Post good position nets) (Cash dollars) before fit is = absurd cc
legal_fits caller (Read agent) Done before fit is = absurd cc
legal_fits caller (Read agent) (Cash dollars) before fit is = fit

abbrev Fits : CashEntry → Type 0
Fits e = FitsCall e.caller e.call e.reply

cash_fits : (cash : List CashEntry) → IsLegalCash cash → AllByRecursion Fits cash
cash_fits cash legal = all_from Fits cash (λ i e found. let l = legal i e found in legal_fits e.caller e.call e.reply (take i cash) l.0 l.1)

pub returns-clause-shown : goal.returns-clause-shown
returns-clause-shown c =
    let cash = c.args.cash.now in
    record {
      count = number_is (length cash) (omega (arith, c.entry.ensures.few));
      entries = both_all IsLoggableCash Fits IsCashEntry cash_entry_is cash (recursion_from_All IsLoggableCash cash c.entry.ensures.loggable) (cash_fits cash c.board.ensures.legal);
    }
