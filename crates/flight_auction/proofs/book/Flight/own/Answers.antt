use Rattle.std.proofs.Common.{ℕ, ◌≤◌, List, ap, ◌∙◌, length, arith}
use Rattle.flight_auction.specs.{left_fault, StandingPoint, FlightBook, FlightStandsFor, agents_points}
use Rattle.flight_auction.proofs.Keeping.{book_of, owns}
use Rattle.flight_auction.proofs.Limits.{few_points}
use Rattle.flight_auction.proofs.book.Flight.own.Goals as goal

pub points_of-requires : goal.points_of-requires
points_of-requires c =
    let f = c.self.inside in
    omega (arith, few_points f.bound f.price f.standing.items c.get.result c.self.invariant, ap (λ (xs : List StandingPoint). length (agents_points c.get.result xs)) c.deref.ensures.0)

pub new-requires : goal.new-requires
new-requires c = ap left_fault (c.deref-2.ensures.0 ∙ c.points_of.ensures ∙ ap (agents_points c.get.result) c.deref.ensures.0) ∙ c.self.invariant.limited c.get.result

pub returns-clause-left : goal.returns-clause-left
returns-clause-left c = λ setup past stood.
    let f = c.self.inside in
    let book : FlightBook = book_of f.good f.bound f.price f.standing.items f.closed in
    let kept : FlightStandsFor book setup past = rw c.self.view_is stood in
    let le : c.args.agent ≤ 7 = omega (arith, c.get.ensures.range, c.get.ensures.value) in
    c.new.ensures ∙ c.deref-2.ensures.0 ∙ c.points_of.ensures ∙ ap (agents_points c.get.result) c.deref.ensures.0 ∙ ap (λ (n : ℕ). agents_points n f.standing.items) c.get.ensures.value
    ∙ owns setup past book kept c.args.agent le
