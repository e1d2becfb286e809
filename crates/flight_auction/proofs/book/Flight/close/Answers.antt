use Rattle.flight_auction.specs.{FlightBook, FlightStandsFor, Close, clock, units_standing}
use Rattle.flight_auction.proofs.Keeping.{book_of, follows_on_closed, follows_closed}
use Rattle.std.proofs.Common.{◌≡◌, refl, ap, arith}
use Rattle.auction_rules.proofs.Trading.{nothing_spent}
use Rattle.flight_auction.proofs.book.Flight.close.Goals as goal

pub returns-then-self-clause-follows : goal.returns-then-self-clause-follows
returns-then-self-clause-follows c = λ setup past stood here.
    let f = c.self.inside in
    let book : FlightBook = book_of f.good f.bound f.price f.standing.items f.closed in
    let kept : FlightStandsFor book setup past = rw c.self.view_is stood in
    rw (← c.self.view_is) (follows_on_closed setup past book kept clock Close c.clear.new.self refl c.if-self.true c.clear.ensures)

pub returns-clause-follows : goal.returns-clause-follows
returns-clause-follows c = λ setup past stood here.
    let f = c.self.inside in
    let book : FlightBook = book_of f.good f.bound f.price f.standing.items f.closed in
    let kept : FlightStandsFor book setup past = rw c.self.view_is stood in
    follows_closed setup past book kept c.clear-2.new.self.items c.clear.new.self c.if-self.false c.clear-2.ensures c.clear.ensures

pub returns-then-self-clause-units : goal.returns-then-self-clause-units
returns-then-self-clause-units c = nothing_spent _ _ c.clear.new.self c.clear.ensures (omega arith)

pub returns-clause-units : goal.returns-clause-units
returns-clause-units c =
    nothing_spent _ _ c.clear.new.self c.clear.ensures (let none : units_standing c.clear-2.new.self.items ≡ 0 = ap units_standing c.clear-2.ensures in omega (arith, none))
