use Rattle.std.proofs.Common.{List, length, ◌≡◌, ◌<◌, ◌++◌, ◌∷◌, [], sym, subst, arith, OnOk}
use Rattle.std.proofs.lemmas.List.{length-map}
use Rattle.auction_rules.specs.History.{Entry}
use Rattle.auction_core.specs.Stored.{entry_with, stored}
use Rattle.log_reader.proofs.KeptHistories.{kept_after, pushed_after}
use Rattle.log_reader.proofs.histories.LogHistory.push.Goals as goal

pub invariant_of-self : goal.invariant_of-self
invariant_of-self c =
    let a = c.self.inside in
    let told = c.store.ensures in
    let room : length (stored a.entries.items a.trades.items) < 8256 = subst (λ (h : List Entry). length h < 8256) (sym c.self.view_is) c.requires in
    kept_after a.entries.items a.trades.items c.args.entry c.store.result c.store.new.entries.items c.store.new.trades.items told.entries told.trades told.entries_kept told.trades_kept c.self.invariant told.read
    (omega (arith, room, length-map a.entries.items (entry_with a.trades.items))) told.few

pub returns-clause-pushed : goal.returns-clause-pushed
returns-clause-pushed c =
    let a = c.self.inside in
    let told = c.store.ensures in
    subst (λ (h : List Entry). OnOk c.store.result (stored c.store.new.entries.items c.store.new.trades.items ≡ h ++ c.args.entry ∷ [])) c.self.view_is
    (pushed_after a.entries.items a.trades.items c.args.entry c.store.result c.store.new.entries.items c.store.new.trades.items told.entries told.trades c.self.invariant)
