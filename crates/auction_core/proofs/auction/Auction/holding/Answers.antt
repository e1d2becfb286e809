use Rattle.std.proofs.Common.{rules, ◌≡◌, ◌≤◌, ℤ, subst, sym, ◌∙◌, reverse, arith, to_z, of_z, w32}
use Rattle.std.proofs.lemmas.Int.{ints}
use Rattle.auction_core.specs.{holding, IsHolding, AuctionHistory, stored}
use Rattle.auction_core.proofs.Answering.{held_is}
use Rattle.auction_core.proofs.Keeping.{in_range}
use Rattle.auction_core.proofs.auction.Auction.holding.Goals as goal

-- a number in range as the code has it
same : (z held : ℤ) → z ≡ held → IsHolding held → to_z w32 (of_z w32 z) ≡ held
same z held is range = omega (arith, ints, range.0, range.1)

pub returns-clause-value : goal.returns-clause-value
returns-clause-value c =
    let a = c.self.inside in
    let le : c.args.party ≤ 8 = search rules in
    let past = reverse (stored a.entries.items a.trades.items) in
    subst (λ (h : AuctionHistory). to_z w32 (of_z w32 c.holding.result) ≡ holding h.setup (reverse h.history) c.args.party) c.self.view_is
    (same c.holding.result (holding a.terms past c.args.party) (c.holding.ensures ∙ held_is a.terms past a.held c.args.party le c.self.invariant.kept.held)
    (in_range a.terms a.book a.held (stored a.entries.items a.trades.items) c.args.party c.self.invariant.kept))

pub returns-clause-range : goal.returns-clause-range
returns-clause-range c =
    let a = c.self.inside in
    subst IsHolding (sym (returns-clause-value c))
    (subst (λ (h : AuctionHistory). IsHolding (holding h.setup (reverse h.history) c.args.party)) c.self.view_is (in_range a.terms a.book a.held (stored a.entries.items a.trades.items) c.args.party c.self.invariant.kept))
