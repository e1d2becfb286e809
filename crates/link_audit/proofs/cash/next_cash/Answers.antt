use Rattle.std.proofs.Common.{◌≡◌, ◌≢◌, List, length, get_or, Some, true, false, refl, sym, ap, ◌∙◌, subst, eq-eqb, eqb-true, slice_get}
use Rattle.std.proofs.lemmas.Option.{slice_get_read}
use Rattle.trade_ledger.specs.declared.cash_calls.CashEntry.{CashEntry}
use Rattle.link_audit.specs.Ahead.{cash_caller}
use Rattle.link_audit.proofs.Rest.{rest_here, rest_there}
use Rattle.link_audit.proofs.cash.next_cash.Goals as goal

pub returns-then-eq-clause-next : goal.returns-then-eq-clause-next
returns-then-eq-clause-next c =
    let cash = c.args.log.now.cash in let found : List CashEntry = c.cash-cash.result.now in let n = c.loop-position.position in let e : CashEntry = c.index-cash-position.result in
    let here : slice_get found n ≡ Some e = slice_get_read found (length found) n e refl c.loop-position-test.true c.index-cash-position.is in
    let at : slice_get cash n ≡ Some e = subst (λ (l : List CashEntry). slice_get l n ≡ Some e) c.cash-cash.ensures.value here in
    let same : (get_or found n e).caller ≡ c.caller.result = eqb-true (get_or found n e).caller c.caller.result (sym c.eq.ensures ∙ c.if-eq.true) in
    let own : e.caller ≡ c.args.agent = ap (λ (x : CashEntry). x.caller) c.index-cash-position.is ∙ (same ∙ c.caller.ensures) in
    (e, at, own, c.loop-position.invariant ∙ rest_here cash_caller c.args.agent cash n e at own)

pub loop-position-preserved : goal.loop-position-preserved
loop-position-preserved c =
    let cash = c.args.log.now.cash in let found : List CashEntry = c.cash-cash.result.now in let n = c.loop-position.position in let e : CashEntry = c.index-cash-position.result in
    let here : slice_get found n ≡ Some e = slice_get_read found (length found) n e refl c.loop-position-test.true c.index-cash-position.is in
    let at : slice_get cash n ≡ Some e = subst (λ (l : List CashEntry). slice_get l n ≡ Some e) c.cash-cash.ensures.value here in
    let other : e.caller ≢ c.args.agent = λ own. (
    let same : (get_or found n e).caller ≡ c.caller.result = sym (ap (λ (x : CashEntry). x.caller) c.index-cash-position.is) ∙ (own ∙ sym c.caller.ensures) in
    let never : true ≡ false = sym (eq-eqb (get_or found n e).caller c.caller.result same) ∙ (sym c.eq.ensures ∙ c.if-eq.false) in absurd cc) in
    c.loop-position.invariant ∙ rest_there cash_caller c.args.agent cash n e at other
