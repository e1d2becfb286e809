use Rattle.std.proofs.Common.{List, length, ap, ◌∙◌}
use Rattle.auction_core.specs.Auctions.{AuctionHistory}
use Rattle.auction_core.specs.ClosedGame.{ClosedGame}
use Rattle.settlement.specs.Settlement.{settlement_of}
use Rattle.settlement.proofs.Dollars.{twenty_eight}
use Rattle.settlement.proofs.settling.settle.Goals as goal

pub settle_auctions-requires : goal.settle_auctions-requires
settle_auctions-requires c = ap (λ (xs : List AuctionHistory). length xs) c.deref.ensures.value ∙ twenty_eight c.closed.inside.auctions.items c.closed.invariant

pub returns : goal.returns
returns c = c.settle_auctions.ensures ∙ ap settlement_of (c.deref.ensures.value ∙ ap (λ (g : ClosedGame). g.auctions) c.closed.view_is)
