use Rattle.std.proofs.Common.{◌≡◌, ap, arith, reverse, length}
use Rattle.tac_base.specs.declared.calls.Board.{Board}
use Rattle.auction_core.specs.Stored.{stored}
use Rattle.auction_core.proofs.Counting.{length-part}
use Rattle.auction_core.proofs.Keeping.{few_stored, position_is}
use Rattle.auction_core.proofs.auction.AuctionKept.board.Goals as goal

pub overflow_cast-len : goal.overflow_cast-len
overflow_cast-len c =
    let a = c.self.inside in
    record { fits = omega (arith, c.len.ensures, a.entries.ok.0, few_stored a.terms a.book a.held a.entries.items a.trades.items c.self.invariant.kept) }

pub returns-clause-small : goal.returns-clause-small
returns-clause-small c =
    let a = c.self.inside in
    let past = reverse (stored a.entries.items a.trades.items) in
    let here : c.len.result ≡ length a.entries.items = omega (arith, c.len.ensures, a.entries.ok.0) in
    let count = ap (λ (b : Board). b.count) (c.board.ensures.board a.terms past c.self.invariant.kept.stands (position_is a.entries.items a.trades.items c.len.result here)) in
    let same = position_is a.entries.items a.trades.items (length a.entries.items) (λ _. length a.entries.items) in (
      omega (arith, count, same, few_stored a.terms a.book a.held a.entries.items a.trades.items c.self.invariant.kept),
      omega (arith, c.board.ensures.bid_within),
      omega (arith, c.board.ensures.ask_within),
    )

pub returns-clause-capped : goal.returns-clause-capped
returns-clause-capped c = λ caller le.
    let a = c.self.inside in
    rw (← c.self.view_is, length-part (stored a.entries.items a.trades.items) caller) (c.self.invariant.kept.legal.capped caller le)
