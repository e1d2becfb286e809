use Rattle.std.proofs.Common.{◌≡◌, ◌<◌, ℕ, List, length, map, Some, Option, Bor, slice_get, sym, ap, ◌∙◌, subst, arith, length-set, option_copied}
use Rattle.tac_base.specs.declared.calls.Entry.{Entry as StoredEntry}
use Rattle.auction_rules.specs.History.{Entry}
use Rattle.log_audit.specs.Prelude.{entries_of, cap, IsShown}
use Rattle.log_audit.proofs.Struck.{struck_next, trades_there}
use Rattle.log_audit.proofs.replaying.strike_next.Goals as goal

pub strike-requires-clause-room : goal.strike-requires-clause-room
strike-requires-clause-room c =
    let caller = c.unwrap-entry.result.now.caller in
    omega (arith, c.has_room.ensures.room.0 c.if-not-has_room.false, c.requires.counted caller c.has_room.ensures.known)

pub returns-clause-struck : goal.returns-clause-struck
returns-clause-struck c =
    let history = c.args.history.now in let past = c.args.auction.now.history in let shown : StoredEntry = c.unwrap-entry.result.now in let counts = c.args.counts.now in
    let is : IsShown history c.len-position.result (Some shown) = subst (λ (o : Option (Bor StoredEntry)). IsShown history c.len-position.result (option_copied o)) c.unwrap-entry.ensures c.entry.ensures.shown in
    let there : IsShown history (length past) (Some shown) = subst (λ (k : ℕ). IsShown history k (Some shown)) c.len-position.ensures.value is in
    let e = there.0 in
    let own' : c.trades_of.result.now ≡ e.trades = trades_there history (length past) e c.trades_of.result.now there.1 (subst (λ (k : ℕ). slice_get (map (λ (x : Entry). x.trades) history) k ≡ Some c.trades_of.result.now) c.len-position.ensures.value c.trades_of.ensures) in
    let nine : length counts ≡ 9 = sym (length-set counts shown.caller _) ∙ (ap (λ (l : List ℕ). length l) (sym c.count.ensures) ∙ c.count.array_long) in
    let room : entries_of past shown.caller < cap shown.caller = omega (arith, c.has_room.ensures.room.0 c.if-not-has_room.false, c.requires.counted shown.caller c.has_room.ensures.known) in
    struck_next c.args.auction.now.setup history past e shown c.strike.new.auction.history counts c.count.new.counts c.trades_of.result.now c.strike.result
    c.requires.before there.1 there.2 own' c.has_room.ensures.known room c.requires.counted nine c.count.ensures c.strike.ensures.history c.strike.ensures.same c.strike.ensures.nets
