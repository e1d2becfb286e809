use Rattle.std.proofs.Common.{◌≡◌, ◌<◌, ℕ, ℤ, List, length, Some, sym, ap, ◌∙◌, subst, arith, rules, w64, slice_get}
use mir.Val.{SFits}
use Rattle.std.proofs.lemmas.Int.{to_z-of_z}
use Rattle.std.proofs.lemmas.Option.{slice_get_within, get_or_from_slice_get}
use Rattle.link_audit.specs.{CASH_READINGS, CashEntry, IsLoggedCashEntry, reading, FitsReply, subject_of}
use Rattle.line_protocol.specs.declared.saying.Said.TheVariants.{Cash}
use Rattle.link_audit.proofs.Determined.{read_spent_taken, read_post_stuck, read_unfit_stuck, read_taken}
use Rattle.link_audit.proofs.Posting.{logged_at}
use Rattle.link_audit.proofs.taking.take_reading.Goals as goal

pub returns-then-places-eq-CASH_READINGS-clause-yes : goal.returns-then-places-eq-CASH_READINGS-clause-yes
returns-then-places-eq-CASH_READINGS-clause-yes g c = λ t.
    read_spent_taken (subject_of c.args.log.now c.args.boards.now c.args.agent) (FitsReply (g.D.Dialect.form c.args.dialect.now) c.args.heard c.args.reply.now) c.args.places.now c.if-places-eq-CASH_READINGS.true (c.fits.ensures.0 t)

pub bounds-cash-place : goal.bounds-cash-place
bounds-cash-place g c =
    let inside = slice_get_within c.args.log.now.cash c.in-Some.place c.in-Some.ensures.next.0 c.in-Some.ensures.next.1 in
    omega (arith, inside, ap (λ (l : List CashEntry). length l) c.cash.ensures.value)

pub amount_read-requires : goal.amount_read-requires
amount_read-requires g c =
    let place = c.in-Some.place in let found : List CashEntry = c.cash.result.now in let entry : CashEntry = c.index-cash-place.result in
    let next = c.in-Some.ensures.next in
    let here : slice_get found place ≡ Some next.0 = subst (λ (l : List CashEntry). slice_get l place ≡ Some next.0) (sym c.cash.ensures.value) next.1 in
    let same : entry ≡ next.0 = c.index-cash-place.is ∙ get_or_from_slice_get found place next.0 entry here in
    subst IsLoggedCashEntry (sym same) (logged_at c.args.log.now c.requires.posts.logged place next.0 next.1)

pub returns-in_default-amount_read-clause-no : goal.returns-in_default-amount_read-clause-no
returns-in_default-amount_read-clause-no g c =
    let place = c.in-Some.place in let found : List CashEntry = c.cash.result.now in let entry : CashEntry = c.index-cash-place.result in
    let next = c.in-Some.ensures.next in
    let here : slice_get found place ≡ Some next.0 = subst (λ (l : List CashEntry). slice_get l place ≡ Some next.0) (sym c.cash.ensures.value) next.1 in
    let same : entry ≡ next.0 = c.index-cash-place.is ∙ get_or_from_slice_get found place next.0 entry here in
    λ never. read_post_stuck (subject_of c.args.log.now c.args.boards.now c.args.agent) (FitsReply (g.D.Dialect.form c.args.dialect.now) c.args.heard c.args.reply.now) c.args.places.now c.if-places-eq-CASH_READINGS.false place next.0 next.3
    (λ dollars is. c.in_default-amount_read.ensures c.args.agent dollars (is ∙ sym same))

pub returns-then-not-fits-clause-no : goal.returns-then-not-fits-clause-no
returns-then-not-fits-clause-no g c =
    let place = c.in-Some.place in let found : List CashEntry = c.cash.result.now in let entry : CashEntry = c.index-cash-place.result in
    let next = c.in-Some.ensures.next in let amount = c.in-Some-amount_read.dollars in
    let here : slice_get found place ≡ Some next.0 = subst (λ (l : List CashEntry). slice_get l place ≡ Some next.0) (sym c.cash.ensures.value) next.1 in
    let same : entry ≡ next.0 = c.index-cash-place.is ∙ get_or_from_slice_get found place next.0 entry here in
    let own : entry.caller ≡ c.args.agent = ap (λ (x : CashEntry). x.caller) same ∙ next.2 in
    let is : reading c.args.agent amount ≡ next.0 = ap (λ (n : ℕ). reading n amount) (sym own) ∙ (c.in-Some-amount_read.ensures ∙ same) in
    let wide : SFits w64 amount = search rules in
    let kept = to_z-of_z w64 amount wide in
    λ never. read_unfit_stuck (subject_of c.args.log.now c.args.boards.now c.args.agent) (FitsReply (g.D.Dialect.form c.args.dialect.now) c.args.heard c.args.reply.now) c.args.places.now c.if-places-eq-CASH_READINGS.false place next.0 next.3 amount is
    (λ fit. (let yes = c.fits-2.ensures.1 (subst (λ (z : ℤ). FitsReply (g.D.Dialect.form c.args.dialect.now) c.args.heard c.args.reply.now (Cash place z)) (sym kept) fit) in let no = c.if-not-fits.true in absurd cc))

pub overflow_add-places : goal.overflow_add-places
overflow_add-places g c =
    let inside = slice_get_within c.args.log.now.cash c.in-Some.place c.in-Some.ensures.next.0 c.in-Some.ensures.next.1 in
    let few = c.in-Some.ensures.few in omega (arith, inside, few)

pub returns-clause-yes : goal.returns-clause-yes
returns-clause-yes g c =
    let place = c.in-Some.place in let found : List CashEntry = c.cash.result.now in let entry : CashEntry = c.index-cash-place.result in
    let next = c.in-Some.ensures.next in let amount = c.in-Some-amount_read.dollars in
    let here : slice_get found place ≡ Some next.0 = subst (λ (l : List CashEntry). slice_get l place ≡ Some next.0) (sym c.cash.ensures.value) next.1 in
    let same : entry ≡ next.0 = c.index-cash-place.is ∙ get_or_from_slice_get found place next.0 entry here in
    let own : entry.caller ≡ c.args.agent = ap (λ (x : CashEntry). x.caller) same ∙ next.2 in
    let is : reading c.args.agent amount ≡ next.0 = ap (λ (n : ℕ). reading n amount) (sym own) ∙ (c.in-Some-amount_read.ensures ∙ same) in
    let wide : SFits w64 amount = search rules in
    let kept = to_z-of_z w64 amount wide in
    let few : c.args.places.now.readings < CASH_READINGS = (let some = c.if-places-eq-CASH_READINGS.false in let most = c.if-places-gt-CASH_READINGS.false in omega (arith, some, most)) in
    λ t. read_taken (subject_of c.args.log.now c.args.boards.now c.args.agent) (FitsReply (g.D.Dialect.form c.args.dialect.now) c.args.heard c.args.reply.now) c.args.places.now c.if-places-eq-CASH_READINGS.false place next.0 next.3 amount is few
    (subst (λ (z : ℤ). FitsReply (g.D.Dialect.form c.args.dialect.now) c.args.heard c.args.reply.now (Cash place z)) kept (c.fits-2.ensures.0 c.if-not-fits.false))
