use Rattle.std.proofs.Common.{arith, subst, All}
use Rattle.std.proofs.lemmas.List.{length-map}
use Rattle.std.proofs.lemmas.List.Elements.{All-from_recursion}
use Rattle.auction_rules.specs.History.{Entry}
use Rattle.auction_core.specs.{AuctionHistory, IsEntry, IsHistory, IsToldInRange, stored, entry_with}
use Rattle.auction_core.proofs.Keeping.{few_stored}
use Rattle.auction_core.proofs.auction.Auction.len.Goals as goal

pub overflow_cast-result : goal.overflow_cast-result
overflow_cast-result c =
    let a = c.self.inside in
    record { fits = omega (arith, c.len.ensures, a.entries.ok.0, few_stored a.terms a.book a.held a.entries.items a.trades.items c.self.invariant.kept) }

pub returns-clause-few : goal.returns-clause-few
returns-clause-few c =
    let a = c.self.inside in
    omega (arith, c.len.ensures, a.entries.ok.0, few_stored a.terms a.book a.held a.entries.items a.trades.items c.self.invariant.kept)

pub returns-clause-loggable : goal.returns-clause-loggable
returns-clause-loggable c =
    let a = c.self.inside in let history = stored a.entries.items a.trades.items in
    subst (λ (h : AuctionHistory). IsHistory h.setup.good h.history) c.self.view_is
    (record { few = omega (arith, few_stored a.terms a.book a.held a.entries.items a.trades.items c.self.invariant.kept, length-map a.entries.items (entry_with a.trades.items)); entries = All-from_recursion (IsEntry a.terms.good) history c.self.invariant.kept.loggable })

pub returns-clause-told : goal.returns-clause-told
returns-clause-told c =
    let a = c.self.inside in
    subst (λ (h : AuctionHistory). All (λ e. IsToldInRange e.reply) h.history) c.self.view_is
    (All-from_recursion (λ (e : Entry). IsToldInRange e.reply) (stored a.entries.items a.trades.items) c.self.invariant.kept.told)
