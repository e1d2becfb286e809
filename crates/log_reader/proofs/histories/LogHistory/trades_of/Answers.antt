use Rattle.std.proofs.Common.{◌≡◌, ◌<◌, List, take, drop, map, length, subst, sym, ap, ◌∙◌, arith, Some, slice_get}
use Rattle.std.proofs.lemmas.List.{length-map}
use Rattle.std.proofs.lemmas.Option.{slice_get-get_or}
use Rattle.tac_base.specs.declared.calls.Entry.{Entry as StoredEntry}
use Rattle.log_reader.specs.Prelude.{Trade, entry_with, stored}
use Rattle.auction_rules.specs.History.{Entry}
use Rattle.auction_core.proofs.Chains.{trades_end, trades_are}
use Rattle.log_reader.proofs.histories.LogHistory.trades_of.Goals as goal

pub part_of-requires : goal.part_of-requires
part_of-requires c =
    let a = c.self.inside in
    let shown : StoredEntry = c.index-entry.result.now in
    let inside : c.args.position < length (stored a.entries.items a.trades.items) = subst (λ (h : List Entry). c.args.position < length h) (sym c.self.view_is) c.requires in
    let here : c.args.position < length a.entries.items = omega (arith, inside, length-map a.entries.items (entry_with a.trades.items)) in
    let at : slice_get a.entries.items c.args.position ≡ Some shown = slice_get-get_or a.entries.items c.args.position shown here ∙ ap (λ (e : StoredEntry). Some e) (sym c.index-entry.ensures) in
    omega (arith, trades_end a.entries.items a.trades.items c.args.position shown c.self.invariant.stored at, c.from.ensures, ap (λ (ts : List Trade). length ts) c.deref.ensures.value)

pub returns : goal.returns
returns c =
    let a = c.self.inside in
    let shown : StoredEntry = c.index-entry.result.now in
    let inside : c.args.position < length (stored a.entries.items a.trades.items) = subst (λ (h : List Entry). c.args.position < length h) (sym c.self.view_is) c.requires in
    let here : c.args.position < length a.entries.items = omega (arith, inside, length-map a.entries.items (entry_with a.trades.items)) in
    let at : slice_get a.entries.items c.args.position ≡ Some shown = slice_get-get_or a.entries.items c.args.position shown here ∙ ap (λ (e : StoredEntry). Some e) (sym c.index-entry.ensures) in
    let part : c.part_of.result.now ≡ take shown.trades (drop shown.first_trade a.trades.items) = c.part_of.ensures ∙ (λ i. take (c.from.ensures i) (drop shown.first_trade (c.deref.ensures.value i))) in
    subst (λ (h : List Entry). slice_get (map (λ (e : Entry). e.trades) h) c.args.position ≡ Some c.part_of.result.now) c.self.view_is
    (trades_are a.entries.items a.trades.items c.args.position shown at ∙ ap (λ (ts : List Trade). Some ts) (sym part))
