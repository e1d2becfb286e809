use Rattle.std.proofs.Common.{◌≡◌, List, slice_get, subst, sym, ap, ◌∙◌, option_copied}
use Rattle.tac_base.specs.declared.calls.Entry.{Entry as StoredEntry}
use Rattle.auction_core.specs.{AuctionHistory, IsShown}
use Rattle.auction_core.proofs.Chains.{shown_at}
use Rattle.auction_core.proofs.auction.Auction.entry.Goals as goal

pub returns : goal.returns
returns c =
    let a = c.self.inside in
    let found : slice_get a.entries.items c.args.position ≡ option_copied c.entry_at.result =
    sym (c.entry_at.ensures ∙ ap (λ (es : List StoredEntry). slice_get es c.args.position) c.deref.ensures.value) in
    subst (λ (h : AuctionHistory). IsShown h.history c.args.position (option_copied c.entry_at.result)) c.self.view_is
    (shown_at a.entries.items a.trades.items c.args.position (option_copied c.entry_at.result) c.self.invariant.stored found)
