use Rattle.std.proofs.Common.{refl, ◌∙◌, ap, w8, ℤ, ◌≡◌, arith, to_z, of_z}
use Rattle.std.proofs.lemmas.Int.{ints}
use Rattle.flight_auction.specs.{next_price, Update, clock, FlightBook, FlightStandsFor, units_standing}
use Rattle.flight_auction.proofs.Keeping.{book_of, follows_on_closed, follows_updated}
use Rattle.flight_auction.proofs.Limits.{sound_priced, sound_unsold}
use Rattle.flight_auction.proofs.Paying.{sales_paid}
use Rattle.auction_rules.proofs.Trading.{nothing_spent}
use Rattle.flight_auction.proofs.Spending.{sales_spend, sales_short}
use Rattle.flight_auction.proofs.book.Flight.update.Goals as goal

pub returns-then-self-clause-follows : goal.returns-then-self-clause-follows
returns-then-self-clause-follows c = λ setup past stood here.
    let f = c.self.inside in
    let book : FlightBook = book_of f.good f.bound f.price f.standing.items f.closed in
    let kept : FlightStandsFor book setup past = rw c.self.view_is stood in
    rw (← c.self.view_is) (follows_on_closed setup past book kept clock (Update c.args.tick c.args.draw) c.clear.new.self refl c.if-self.true c.clear.ensures)

pub invariant_of-self : goal.invariant_of-self
invariant_of-self c =
    let f = c.self.inside in
    let new = c.next_price-self-inside.result in
    rw c.sell.ensures.left
    (sound_unsold f.bound new new f.standing.items
    (sound_priced f.bound f.price new f.standing.items c.next_price-self-inside.ensures.from c.next_price-self-inside.ensures.to c.self.invariant))

pub returns-clause-follows : goal.returns-clause-follows
returns-clause-follows c = λ setup past stood here.
    let f = c.self.inside in
    let book : FlightBook = book_of f.good f.bound f.price f.standing.items f.closed in
    let kept : FlightStandsFor book setup past = rw c.self.view_is stood in
    let kept_bound : to_z w8 (of_z w8 f.bound) ≡ f.bound = omega (arith, ints, c.self.invariant.bound_from, c.self.invariant.bound_to) in
    follows_updated setup past book kept c.args.tick c.args.draw c.next_price-self-inside.result c.sell.new.standing.items c.sell.new.fills c.if-self.false
    (c.next_price-self-inside.ensures.value ∙ ap (λ (z : ℤ). next_price f.price z c.args.tick c.args.draw) kept_bound) c.sell.ensures.left c.sell.ensures.trades

pub returns-clause-paid : goal.returns-clause-paid
returns-clause-paid c =
    let f = c.self.inside in
    rw (← c.self.view_is) (sales_paid f.good c.next_price-self-inside.result f.standing.items c.sell.new.fills c.sell.ensures.trades)

pub returns-then-self-clause-units : goal.returns-then-self-clause-units
returns-then-self-clause-units c = nothing_spent _ _ c.clear.new.self c.clear.ensures (omega arith)

pub returns-clause-units : goal.returns-clause-units
returns-clause-units c =
    let f = c.self.inside in
    rw (← c.self.view_is)
    (sales_spend f.good f.price c.next_price-self-inside.result (units_standing f.standing.items) f.bound f.standing.items c.sell.new.standing.items c.sell.new.fills c.self.invariant (omega arith)
    c.sell.ensures.trades c.sell.ensures.left)

pub returns-clause-short : goal.returns-clause-short
returns-clause-short c =
    let f = c.self.inside in
    sales_short f.good f.price c.next_price-self-inside.result f.bound f.standing.items c.sell.new.fills c.self.invariant c.next_price-self-inside.ensures.to c.sell.ensures.trades
