use Rattle.std.proofs.Common.{◌≡◌, List, slice_get, subst, sym, ap, ◌∙◌, option_copied}
use Rattle.tac_base.specs.declared.calls.Entry.{Entry as StoredEntry}
use Rattle.auction_rules.specs.History.{Entry}
use Rattle.log_reader.specs.Prelude.{IsFit, IsShown}
use Rattle.auction_core.proofs.Chains.{shown_at}
use Rattle.log_reader.proofs.KeptHistories.{found_is}
use Rattle.log_reader.proofs.histories.LogHistory.entry.Goals as goal

pub returns-clause-shown : goal.returns-clause-shown
returns-clause-shown c =
    let a = c.self.inside in
    let found : slice_get a.entries.items c.args.position ≡ option_copied c.entry_at.result =
    sym (c.entry_at.ensures ∙ ap (λ (es : List StoredEntry). slice_get es c.args.position) c.deref.ensures.value) in
    subst (λ (h : List Entry). IsShown h c.args.position (option_copied c.entry_at.result)) c.self.view_is
    (shown_at a.entries.items a.trades.items c.args.position (option_copied c.entry_at.result) c.self.invariant.stored found)

pub returns-clause-fit : goal.returns-clause-fit
returns-clause-fit c =
    let a = c.self.inside in
    let found : slice_get a.entries.items c.args.position ≡ option_copied c.entry_at.result =
    sym (c.entry_at.ensures ∙ ap (λ (es : List StoredEntry). slice_get es c.args.position) c.deref.ensures.value) in
    found_is (λ (e : StoredEntry). IsFit e.call) a.entries.items c.args.position (option_copied c.entry_at.result) c.self.invariant.fit found
