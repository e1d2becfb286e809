use Rattle.std.proofs.Common.{◌≡◌, ◌≤◌, List, [], length, Some, Option, Bor, sym, ap, subst, arith, option_copied}
use Rattle.std.proofs.lemmas.Option.{get_or_from_slice_get, slice_get_within}
use Rattle.tac_base.specs.declared.calls.Entry.{Entry as StoredEntry}
use Rattle.auction_rules.specs.History.{Entry}
use Rattle.log_audit.specs.Prelude.{IsShown, logged_history}
use Rattle.log_audit.proofs.Earned.{from_earned, to_earned}
use Rattle.log_audit.proofs.posts.is_earned.Goals as goal

pub returns-then-trades_for : goal.returns-then-trades_for
returns-then-trades_for c =
    let log = c.args.log.now in let good = c.args.good in let p = c.args.position in let shown : StoredEntry = c.in-Some.entry.now in let found : List Entry = c.history.result.now in
    let here : logged_history log good ≡ found = get_or_from_slice_get log.histories good found [] c.history.ensures.value in
    let is : IsShown (logged_history log good) p (Some shown) =
    subst (λ (h : List Entry). IsShown h p (Some shown)) (sym here) (subst (λ (o : Option (Bor StoredEntry)). IsShown found p (option_copied o)) c.in-Some.is c.entry.ensures.shown) in
    let own = c.trades_for.ensures.0 c.if-trades_for.true in (
      (λ yes. to_earned (logged_history log good) p shown is c.args.caller c.args.nets.now own.0 own.1 c.nets_at.result c.nets_at.ensures (c.same_nets.ensures.0 yes)),
      (λ earned. c.same_nets.ensures.1 ((from_earned (logged_history log good) p shown is c.args.caller c.args.nets.now earned).2 c.nets_at.result c.nets_at.ensures)),
    )

pub returns-else-trades_for : goal.returns-else-trades_for
returns-else-trades_for c =
    let log = c.args.log.now in let good = c.args.good in let p = c.args.position in let shown : StoredEntry = c.in-Some.entry.now in let found : List Entry = c.history.result.now in
    let here : logged_history log good ≡ found = get_or_from_slice_get log.histories good found [] c.history.ensures.value in
    let is : IsShown (logged_history log good) p (Some shown) =
    subst (λ (h : List Entry). IsShown h p (Some shown)) (sym here) (subst (λ (o : Option (Bor StoredEntry)). IsShown found p (option_copied o)) c.in-Some.is c.entry.ensures.shown) in
    ((λ t. absurd cc), (λ earned. let own = from_earned (logged_history log good) p shown is c.args.caller c.args.nets.now earned in let yes = c.trades_for.ensures.1 (own.0, own.1) in let no = c.if-trades_for.false in absurd cc))

pub returns-in-None : goal.returns-in-None
returns-in-None c =
    let log = c.args.log.now in let good = c.args.good in let p = c.args.position in let found : List Entry = c.history.result.now in
    let here : logged_history log good ≡ found = get_or_from_slice_get log.histories good found [] c.history.ensures.value in
    let past : length found ≤ p = subst (λ (o : Option (Bor StoredEntry)). IsShown found p (option_copied o)) c.in-None.is c.entry.ensures.shown in
    ((λ t. absurd cc), (λ earned. let inside = slice_get_within (logged_history log good) p earned.0 earned.1 in absurd (omega (arith, past, inside, ap (λ (h : List Entry). length h) here))))
