use Rattle.std.proofs.Common.{◌≡◌, ◌<◌, List, length, Some, sym, ap, ◌∙◌, subst, arith, slice_get}
use Rattle.std.proofs.lemmas.Option.{get_or_from_slice_get}
use Rattle.auction_rules.specs.History.{Entry}
use Rattle.trade_ledger.specs.declared.cash_calls.CashEntry.{CashEntry}
use Rattle.link_audit.proofs.Posting.{none_due, unposted_before, posted_next}
use Rattle.link_audit.proofs.taking.post_next.Goals as goal

pub returns-then-entry-eq0 : goal.returns-then-entry-eq0
returns-then-entry-eq0 c = λ e at.
    let shown = c.requires.shown in
    let same : shown.0 ≡ e = (let both : Some shown.0 ≡ Some e = sym shown.1 ∙ at in cc) in
    let long : length shown.0.trades ≡ length e.trades = ap (λ (x : Entry). length x.trades) same in
    none_due c.args.agent c.args.log.now c.requires.posts c.args.good c.args.position e at c.args.cash
    (let count = shown.2.trades in let none = c.if-entry-eq0.true in omega (arith, count, none, long))

pub returns-then-is_post : goal.returns-then-is_post
returns-then-is_post c = λ e at.
    let log = c.args.log.now in let place = c.in_ok-place.place in let found : List CashEntry = c.cash.result.now in let entry : CashEntry = c.index-cash-place.result in
    let next = c.in_ok-place.ensures.next in
    let here : slice_get found place ≡ Some next.0 = subst (λ (l : List CashEntry). slice_get l place ≡ Some next.0) (sym c.cash.ensures.value) next.1 in
    let same : entry ≡ next.0 = c.index-cash-place.is ∙ get_or_from_slice_get found place next.0 entry here in
    let shown = c.requires.shown in
    let alike : shown.0 ≡ e = (let both : Some shown.0 ≡ Some e = sym shown.1 ∙ at in cc) in
    let long : length shown.0.trades ≡ length e.trades = ap (λ (x : Entry). length x.trades) alike in
    let some : 0 < length e.trades = (let count = shown.2.trades in let many = c.if-entry-eq0.false in omega (arith, count, many, long)) in
    let post = c.is_post.ensures.0 c.if-is_post.true in
    posted_next c.args.agent log c.requires.posts c.args.good c.args.position e at c.args.cash some place next.0 next.1 next.3 post.0 (sym (ap (λ (x : CashEntry). x.call) same) ∙ post.1)

pub returns-else-is_post : goal.returns-else-is_post
returns-else-is_post c = λ e at to is.
    let log = c.args.log.now in let place = c.in_ok-place.place in let found : List CashEntry = c.cash.result.now in let entry : CashEntry = c.index-cash-place.result in
    let next = c.in_ok-place.ensures.next in
    let here : slice_get found place ≡ Some next.0 = subst (λ (l : List CashEntry). slice_get l place ≡ Some next.0) (sym c.cash.ensures.value) next.1 in
    let same : entry ≡ next.0 = c.index-cash-place.is ∙ get_or_from_slice_get found place next.0 entry here in
    let shown = c.requires.shown in
    let alike : shown.0 ≡ e = (let both : Some shown.0 ≡ Some e = sym shown.1 ∙ at in cc) in
    let long : length shown.0.trades ≡ length e.trades = ap (λ (x : Entry). length x.trades) alike in
    let some : 0 < length e.trades = (let count = shown.2.trades in let many = c.if-entry-eq0.false in omega (arith, count, many, long)) in
    unposted_before c.args.agent log c.requires.posts c.args.good c.args.position e at c.args.cash some place next.0 next.1 next.3
    (λ nets call. absurd (let yes = c.is_post.ensures.1 (nets, ap (λ (x : CashEntry). x.call) same ∙ call) in let no = c.if-is_post.false in cc)) to is
