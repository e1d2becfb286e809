use Rattle.std.proofs.Common.{◌≡◌, ◌≤◌, ℕ, List, map, get_or, sym, ap, ◌∙◌, subst}
use Rattle.ticket_book.specs.{Unit as ShownUnit, BID_PRICE, lowest_sell, SortedSides, both}
use Rattle.auction_rules.proofs.Quotes.{quotes_within}
use Rattle.ticket_book.proofs.Sided.{sides_of, lowest_is}
use Rattle.ticket_book.proofs.sides.Sides.lowest_sell.Goals as goal

price_is : (c : goal.After-first_price) → c.first_price.result ≡ lowest_sell (both (sides_of c.self.inside.buys.items c.self.inside.sells.items))
price_is c =
    c.first_price.ensures ∙ ap (λ (us : List ShownUnit). get_or (map (λ u. u.price) us) 0 0) c.deref.ensures.0
    ∙ lowest_is c.self.inside.buys.items c.self.inside.sells.items c.self.invariant.sells_sorted

pub returns-clause-value : goal.returns-clause-value
returns-clause-value c = price_is c ∙ ap (λ (s : SortedSides). lowest_sell (both s)) c.self.view_is

pub returns-clause-within : goal.returns-clause-within
returns-clause-within c =
    subst (λ (n : ℕ). n ≤ BID_PRICE) (sym (price_is c)) (quotes_within BID_PRICE (both (sides_of c.self.inside.buys.items c.self.inside.sells.items)) c.self.invariant.priced).1
