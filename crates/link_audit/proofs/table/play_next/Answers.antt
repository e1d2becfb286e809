use Rattle.std.proofs.Common.{◌<◌, ◌≤◌, ℕ, List, [], ◌∷◌, ◌++◌, Some, Option, Bor, take, sym, ◌∙◌, subst, arith, reverse, option_copied}
use Rattle.tac_base.specs.declared.calls.Entry.{Entry as StoredEntry}
use Rattle.auction_rules.specs.History.{Entry}
use Rattle.link_audit.specs.Prelude.{entry_of, entries_of, cap, IsShown}
use Rattle.auction_core.proofs.Counting.{length-part}
use Rattle.link_audit.proofs.Prefixes.{next_prefix, room_next}
use Rattle.link_audit.proofs.table.play_next.Goals as goal

pub act-requires-clause-room : goal.act-requires-clause-room
act-requires-clause-room c =
    let history : List Entry = c.args.history.now in let past : List Entry = c.args.auction.now.history in let n = c.args.position in let shown : StoredEntry = c.unwrap-entry.result.now in
    let is : IsShown history n (Some shown) = subst (λ (o : Option (Bor StoredEntry)). IsShown history n (option_copied o)) c.unwrap-entry.ensures c.entry.ensures.shown in
    let known : shown.caller ≤ 8 = (let range = c.get-caller.ensures.range in omega (arith, range, c.get-caller.ensures.value)) in
    let most : entries_of (take n history) is.0.caller ≤ cap is.0.caller =
    subst (λ (w : List Entry × ℕ). entries_of w.0 w.1 ≤ cap w.1) (λ i. (c.requires.before i, is.2.caller i)) (c.len-entries.ensures.legal.capped shown.caller known) in
    let room = subst (λ (w : List Entry × ℕ). entries_of w.0 w.1 < cap w.1) (λ i. (sym c.requires.before i, sym is.2.caller i)) (room_next c.args.auction.now.setup history n is.0 c.requires.legal is.1 most) in
    omega (arith, length-part past shown.caller, room)

pub returns-clause-history : goal.returns-clause-history
returns-clause-history c =
    let history : List Entry = c.args.history.now in let n = c.args.position in let shown : StoredEntry = c.unwrap-entry.result.now in let setup = c.args.auction.now.setup in
    let is : IsShown history n (Some shown) = subst (λ (o : Option (Bor StoredEntry)). IsShown history n (option_copied o)) c.unwrap-entry.ensures c.entry.ensures.shown in
    c.act.ensures.appended
    ∙ ((λ i. c.requires.before i ++ entry_of setup (reverse (c.requires.before i)) (is.2.caller i) (is.2.call i) ∷ []) ∙ next_prefix setup history n is.0 c.requires.legal is.1)
