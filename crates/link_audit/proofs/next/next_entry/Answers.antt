use Rattle.std.proofs.Common.{◌≡◌, ◌≢◌, ◌<◌, Some, Option, Bor, true, false, arith, sym, ◌∙◌, subst, eq-eqb, eqb-true, option_copied}
use Rattle.link_audit.specs.{AUCTION_ENTRIES, IsShown, entry_caller}
use Rattle.tac_base.specs.declared.calls.Entry.{Entry as StoredEntry}
use Rattle.link_audit.proofs.Rest.{rest_here, rest_there}
use Rattle.link_audit.proofs.next.next_entry.Goals as goal

pub returns-then-eq : goal.returns-then-eq
returns-then-eq c =
    let history = c.args.history.now in let n = c.loop-position.position in let shown : StoredEntry = c.unwrap-entry.result.now in
    let is : IsShown history n (Some shown) = subst (λ (o : Option (Bor StoredEntry)). IsShown history n (option_copied o)) c.unwrap-entry.ensures c.entry.ensures.shown in
    let same : shown.caller ≡ c.caller.result = eqb-true shown.caller c.caller.result (sym c.eq.ensures ∙ c.if-eq.true) in
    let own : is.0.caller ≡ c.args.agent = sym is.2.caller ∙ (same ∙ c.caller.ensures) in
    let inside : n < AUCTION_ENTRIES = (let few = c.len-position-end.ensures.few in omega (arith, few, c.len-position-end.ensures.value, c.loop-position-test.true)) in
    record { next = (is.0, is.1, own, c.loop-position.invariant ∙ rest_here entry_caller c.args.agent history n is.0 is.1 own); few = inside }

pub loop-position-preserved : goal.loop-position-preserved
loop-position-preserved c =
    let history = c.args.history.now in let n = c.loop-position.position in let shown : StoredEntry = c.unwrap-entry.result.now in
    let is : IsShown history n (Some shown) = subst (λ (o : Option (Bor StoredEntry)). IsShown history n (option_copied o)) c.unwrap-entry.ensures c.entry.ensures.shown in
    let other : is.0.caller ≢ c.args.agent = λ own. (
    let same : shown.caller ≡ c.caller.result = is.2.caller ∙ (own ∙ sym c.caller.ensures) in
    let never : true ≡ false = sym (eq-eqb shown.caller c.caller.result same) ∙ (sym c.eq.ensures ∙ c.if-eq.false) in absurd cc) in
    c.loop-position.invariant ∙ rest_there entry_caller c.args.agent history n is.0 is.1 other
