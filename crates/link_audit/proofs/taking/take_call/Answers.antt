use Rattle.std.proofs.Common.{◌≡◌, ◌≢◌, ◌<◌, ◌≤◌, ℕ, List, Option, Some, Ok, Bor, sym, ap, ◌∙◌, subst, arith, slice_index, option_copied, option_map}
use Rattle.std.proofs.lemmas.Option.{slice_get_within}
use Rattle.link_audit.specs.{AGENT_CALLS, Call, Reply, IsShown, At, Asks, asked_call, FitsReply, IsTaken, behind_call, subject_of}
use Rattle.tac_base.specs.declared.calls.Entry.{Entry as StoredEntry}
use Rattle.auction_rules.specs.History.{Entry}
use Rattle.link_audit.specs.declared.places.Places.{Places}
use Rattle.link_audit.proofs.Determined.{spent_taken, none_stuck, many_stuck, seen_stuck, other_stuck, unfit_stuck, unposted_stuck, call_taken}
use Rattle.link_audit.proofs.Found.{none_found, is_found, some_shown}
use Rattle.link_audit.proofs.taking.take_call.Goals as goal
use Rattle.link_audit.proofs.taking.take_call.Goals.{then-places-row-gt-AGENT_CALLS-via-then-places-row-gt-AGENT_CALLS, then-places-row-gt-AGENT_CALLS-via-else-places-row-gt-AGENT_CALLS+then-position-places}

pub returns-then-places-row-eq-AGENT_CALLS-clause-yes : goal.returns-then-places-row-eq-AGENT_CALLS-clause-yes
returns-then-places-row-eq-AGENT_CALLS-clause-yes g c =
    let row : c.from-row.result ≡ c.args.good = c.from-row.ensures ∙ c.get.ensures.value in
    let low : c.args.good < 28 = omega arith in
    let full : slice_index c.args.places.now.made c.args.good ≡ AGENT_CALLS = subst (λ (k : ℕ). slice_index c.args.places.now.made k ≡ AGENT_CALLS) row c.if-places-row-eq-AGENT_CALLS.true in
    λ t. spent_taken (subject_of c.args.log.now c.args.boards.now c.args.agent) (FitsReply (g.D.Dialect.form c.args.dialect.now) c.args.heard c.args.reply.now) c.args.places.now c.args.request.now c.args.good low c.requires.asks full
    (c.fits.ensures.0 t)

pub returns-in_default-clause-no : goal.returns-in_default-clause-no
returns-in_default-clause-no g c =
    let row : c.from-row.result ≡ c.args.good = c.from-row.ensures ∙ c.get.ensures.value in
    let low : c.args.good < 28 = omega arith in
    let some : slice_index c.args.places.now.made c.args.good ≢ AGENT_CALLS = subst (λ (k : ℕ). slice_index c.args.places.now.made k ≢ AGENT_CALLS) row c.if-places-row-eq-AGENT_CALLS.false in
    λ f. none_stuck (subject_of c.args.log.now c.args.boards.now c.args.agent) (FitsReply (g.D.Dialect.form c.args.dialect.now) c.args.heard c.args.reply.now) c.args.places.now c.args.request.now c.args.good low c.requires.asks some
    (none_found c.args.log.now c.args.places.now.next c.args.agent c.args.good c.from-row.result c.history-history.result.now row c.history-history.ensures.value c.in_default.ensures.next)

pub unwrap-entry-requires : goal.unwrap-entry-requires
unwrap-entry-requires g c =
    let found : List Entry = c.history-history.result.now in
    some_shown found c.in-Some.position c.entry.result (slice_get_within found c.in-Some.position c.in-Some.ensures.next.0 c.in-Some.ensures.next.1) c.entry.ensures.shown

pub returns-then-places-row-gt-AGENT_CALLS-clause-no : goal.returns-then-places-row-gt-AGENT_CALLS-clause-no
returns-then-places-row-gt-AGENT_CALLS-clause-no g c =
    let log = c.args.log.now in let good = c.args.good in let from : Places = c.args.places.now in let position = c.in-Some.position in let found : List Entry = c.history-history.result.now in
    let shown : StoredEntry = c.unwrap-entry.result.now in
    let row : c.from-row.result ≡ good = c.from-row.ensures ∙ c.get.ensures.value in
    let low : good < 28 = omega arith in
    let some : slice_index from.made good ≢ AGENT_CALLS = subst (λ (k : ℕ). slice_index from.made k ≢ AGENT_CALLS) row c.if-places-row-eq-AGENT_CALLS.false in
    let is : IsShown found position (Some shown) = subst (λ (o : Option (Bor StoredEntry)). IsShown found position (option_copied o)) c.unwrap-entry.ensures c.entry.ensures.shown in
    let f = is_found log from.next c.args.agent good c.from-row.result found row c.history-history.ensures.value position c.in-Some.ensures.next.0 shown c.in-Some.ensures.next.1 c.in-Some.ensures.next.3 is in
    λ never. elim c.then-places-row-gt-AGENT_CALLS.branch [
      | then-places-row-gt-AGENT_CALLS-via-then-places-row-gt-AGENT_CALLS w ↦
          (let many : AGENT_CALLS < slice_index from.made good = subst (λ (k : ℕ). AGENT_CALLS < slice_index from.made k) row w.if-places-row-gt-AGENT_CALLS.true in
          many_stuck (subject_of log c.args.boards.now c.args.agent) (FitsReply (g.D.Dialect.form c.args.dialect.now) c.args.heard c.args.reply.now) from c.args.request.now good low c.requires.asks some position f.entry f.next many)
      | then-places-row-gt-AGENT_CALLS-via-else-places-row-gt-AGENT_CALLS+then-position-places w ↦
          (let behind : position < slice_index from.seen good = subst (λ (k : ℕ). position < slice_index from.seen k) row w.if-position-places.true in
          seen_stuck (subject_of log c.args.boards.now c.args.agent) (FitsReply (g.D.Dialect.form c.args.dialect.now) c.args.heard c.args.reply.now) from c.args.request.now good low c.requires.asks some position f.entry f.next behind)
    ]

pub returns-then-not-makes-clause-no : goal.returns-then-not-makes-clause-no
returns-then-not-makes-clause-no g c =
    let log = c.args.log.now in let good = c.args.good in let from : Places = c.args.places.now in let position = c.in-Some.position in let found : List Entry = c.history-history.result.now in
    let shown : StoredEntry = c.unwrap-entry.result.now in
    let row : c.from-row.result ≡ good = c.from-row.ensures ∙ c.get.ensures.value in
    let low : good < 28 = omega arith in
    let some : slice_index from.made good ≢ AGENT_CALLS = subst (λ (k : ℕ). slice_index from.made k ≢ AGENT_CALLS) row c.if-places-row-eq-AGENT_CALLS.false in
    let is : IsShown found position (Some shown) = subst (λ (o : Option (Bor StoredEntry)). IsShown found position (option_copied o)) c.unwrap-entry.ensures c.entry.ensures.shown in
    let f = is_found log from.next c.args.agent good c.from-row.result found row c.history-history.ensures.value position c.in-Some.ensures.next.0 shown c.in-Some.ensures.next.1 c.in-Some.ensures.next.3 is in
    λ never. other_stuck (subject_of log c.args.boards.now c.args.agent) (FitsReply (g.D.Dialect.form c.args.dialect.now) c.args.heard c.args.reply.now) from c.args.request.now good low c.requires.asks some position f.entry f.next
    (λ alike. (let yes = c.makes.ensures.1 (alike ∙ ap (λ (call : Call). Some call) (sym f.shows.call)) in let no = c.if-not-makes.true in absurd cc))

pub returns-then-not-fits-clause-no : goal.returns-then-not-fits-clause-no
returns-then-not-fits-clause-no g c =
    let log = c.args.log.now in let good = c.args.good in let from : Places = c.args.places.now in let position = c.in-Some.position in let found : List Entry = c.history-history.result.now in
    let shown : StoredEntry = c.unwrap-entry.result.now in
    let row : c.from-row.result ≡ good = c.from-row.ensures ∙ c.get.ensures.value in
    let low : good < 28 = omega arith in
    let some : slice_index from.made good ≢ AGENT_CALLS = subst (λ (k : ℕ). slice_index from.made k ≢ AGENT_CALLS) row c.if-places-row-eq-AGENT_CALLS.false in
    let is : IsShown found position (Some shown) = subst (λ (o : Option (Bor StoredEntry)). IsShown found position (option_copied o)) c.unwrap-entry.ensures c.entry.ensures.shown in
    let f = is_found log from.next c.args.agent good c.from-row.result found row c.history-history.ensures.value position c.in-Some.ensures.next.0 shown c.in-Some.ensures.next.1 c.in-Some.ensures.next.3 is in
    let replied : c.copy.result ≡ f.entry.reply = c.copy.ensures.value ∙ f.shows.reply in
    λ never. unfit_stuck (subject_of log c.args.boards.now c.args.agent) (FitsReply (g.D.Dialect.form c.args.dialect.now) c.args.heard c.args.reply.now) from c.args.request.now good low c.requires.asks some position f.entry f.next
    (λ fit. (let yes = c.fits-2.ensures.1 (subst (λ (r : Reply). FitsReply (g.D.Dialect.form c.args.dialect.now) c.args.heard c.args.reply.now (At position r)) (sym replied) fit) in let no = c.if-not-fits.true in absurd cc))

pub post_next-requires-clause-shown : goal.post_next-requires-clause-shown
post_next-requires-clause-shown g c =
    let log = c.args.log.now in let good = c.args.good in let from : Places = c.args.places.now in let position = c.in-Some.position in let found : List Entry = c.history-history.result.now in
    let shown : StoredEntry = c.unwrap-entry.result.now in
    let row : c.from-row.result ≡ good = c.from-row.ensures ∙ c.get.ensures.value in
    let is : IsShown found position (Some shown) = subst (λ (o : Option (Bor StoredEntry)). IsShown found position (option_copied o)) c.unwrap-entry.ensures c.entry.ensures.shown in
    let f = is_found log from.next c.args.agent good c.from-row.result found row c.history-history.ensures.value position c.in-Some.ensures.next.0 shown c.in-Some.ensures.next.1 c.in-Some.ensures.next.3 is in
    (f.entry, f.at, f.shows)

pub returns-in_default-post_next-clause-no : goal.returns-in_default-post_next-clause-no
returns-in_default-post_next-clause-no g c =
    let log = c.args.log.now in let good = c.args.good in let from : Places = c.args.places.now in let position = c.in-Some.position in let found : List Entry = c.history-history.result.now in
    let shown : StoredEntry = c.unwrap-entry.result.now in
    let row : c.from-row.result ≡ good = c.from-row.ensures ∙ c.get.ensures.value in
    let low : good < 28 = omega arith in
    let some : slice_index from.made good ≢ AGENT_CALLS = subst (λ (k : ℕ). slice_index from.made k ≢ AGENT_CALLS) row c.if-places-row-eq-AGENT_CALLS.false in
    let is : IsShown found position (Some shown) = subst (λ (o : Option (Bor StoredEntry)). IsShown found position (option_copied o)) c.unwrap-entry.ensures c.entry.ensures.shown in
    let f = is_found log from.next c.args.agent good c.from-row.result found row c.history-history.ensures.value position c.in-Some.ensures.next.0 shown c.in-Some.ensures.next.1 c.in-Some.ensures.next.3 is in
    λ never. unposted_stuck (subject_of log c.args.boards.now c.args.agent) (FitsReply (g.D.Dialect.form c.args.dialect.now) c.args.heard c.args.reply.now) from c.args.request.now good low c.requires.asks some position f.entry f.next
    (c.in_default-post_next.ensures f.entry f.at)

pub overflow_add-places : goal.overflow_add-places
overflow_add-places g c = let few = c.in-Some.ensures.few in omega (arith, few)

pub overflow_add-places-3 : goal.overflow_add-places-3
overflow_add-places-3 g c = let few = c.in-Some.ensures.few in omega (arith, few)

pub returns-clause-yes : goal.returns-clause-yes
returns-clause-yes g c =
    let log = c.args.log.now in let good = c.args.good in let from : Places = c.args.places.now in let position = c.in-Some.position in let found : List Entry = c.history-history.result.now in
    let shown : StoredEntry = c.unwrap-entry.result.now in
    let row : c.from-row.result ≡ good = c.from-row.ensures ∙ c.get.ensures.value in
    let low : good < 28 = omega arith in
    let some : slice_index from.made good ≢ AGENT_CALLS = subst (λ (k : ℕ). slice_index from.made k ≢ AGENT_CALLS) row c.if-places-row-eq-AGENT_CALLS.false in
    let most : slice_index from.made good ≤ AGENT_CALLS = subst (λ (k : ℕ). slice_index from.made k ≤ AGENT_CALLS) row c.if-places-row-gt-AGENT_CALLS.false in
    let few : slice_index from.made good < AGENT_CALLS = omega (arith, some, most) in
    let forward : slice_index from.seen good ≤ position = subst (λ (k : ℕ). slice_index from.seen k ≤ position) row c.if-position-places.false in
    let is : IsShown found position (Some shown) = subst (λ (o : Option (Bor StoredEntry)). IsShown found position (option_copied o)) c.unwrap-entry.ensures c.entry.ensures.shown in
    let f = is_found log from.next c.args.agent good c.from-row.result found row c.history-history.ensures.value position c.in-Some.ensures.next.0 shown c.in-Some.ensures.next.1 c.in-Some.ensures.next.3 is in
    let replied : c.copy.result ≡ f.entry.reply = c.copy.ensures.value ∙ f.shows.reply in
    let alike : option_map (λ p. p.1) (asked_call c.args.request.now) ≡ Some f.entry.call = c.makes.ensures.0 c.if-not-makes.false ∙ ap (λ (call : Call). Some call) f.shows.call in
    let fit = subst (λ (r : Reply). FitsReply (g.D.Dialect.form c.args.dialect.now) c.args.heard c.args.reply.now (At position r)) replied (c.fits-2.ensures.0 c.if-not-fits.false) in
    let cash = c.in-Some-post_next.cash in
    λ t. subst (λ (k : ℕ). IsTaken (λ item. item ≡ Asks (Ok c.args.request.now)) (FitsReply (g.D.Dialect.form c.args.dialect.now) c.args.heard c.args.reply.now) (subject_of log c.args.boards.now c.args.agent) from (behind_call from k position cash)) (sym row)
    (call_taken (subject_of log c.args.boards.now c.args.agent) (FitsReply (g.D.Dialect.form c.args.dialect.now) c.args.heard c.args.reply.now) from c.args.request.now good low c.requires.asks some position f.entry f.next
    few forward alike fit cash (c.in-Some-post_next.ensures f.entry f.at))
