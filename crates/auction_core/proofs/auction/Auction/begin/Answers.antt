use Rattle.std.proofs.Common.{sym, ap, ◌∙◌}
use Rattle.auction_rules.specs.Setup.{Setup}
use Rattle.auction_core.proofs.Starting.{sound_at_first}
use Rattle.auction_core.proofs.auction.Auction.begin.Goals as goal

pub invariant_of-result : goal.invariant_of-result
invariant_of-result c =
    sound_at_first c.new-terms.result c.new-book.result c.new-held.result c.in_ok-entries.entries.items c.in_ok-trades.trades.items _ _ c.new-terms.ensures.range c.new-terms.ensures.few
    (c.new-book.ensures c.new-terms.result (ap (λ (s : Setup). s.good) c.new-terms.ensures.value) (ap (λ (s : Setup). s.rules) (sym c.terms.view_is))) (c.new-held.ensures ∙ c.holdings.ensures)
    c.in_ok-entries.ensures.items c.in_ok-trades.ensures.items c.in_ok-entries.ensures.capacity c.in_ok-trades.ensures.capacity
