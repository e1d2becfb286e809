use Rattle.std.proofs.Common.{◌≡◌, ℕ, ◌≤◌, arith, ap, sym, ◌∙◌, refl, true, false}
use Rattle.std.specs.List.{list_any}
use Rattle.tac_base.specs.declared.calls.Call.TheVariants.{Withdraw}
use Rattle.flight_auction.specs.Book.{FlightBook, FlightStandsFor, is_points_agent, others_than}
use Rattle.flight_auction.proofs.Keeping.{book_of, follows_on_closed, follows_without_bid, follows_withdrawn}
use Rattle.flight_auction.proofs.Limits.{sound_forgotten}
use Rattle.flight_auction.proofs.Spending.{forgotten_units}
use Rattle.flight_auction.proofs.book.Flight.withdraw.Goals as goal

pub returns-then-self-clause-follows : goal.returns-then-self-clause-follows
returns-then-self-clause-follows c = λ setup past stood here.
    let f = c.self.inside in
    let book : FlightBook = book_of f.good f.bound f.price f.standing.items f.closed in
    let kept : FlightStandsFor book setup past = rw c.self.view_is stood in
    rw (← c.self.view_is) (follows_on_closed setup past book kept c.args.agent Withdraw _ refl c.if-self.true refl)

pub returns-then-not-has_points-clause-follows : goal.returns-then-not-has_points-clause-follows
returns-then-not-has_points-clause-follows c = λ setup past stood here.
    let f = c.self.inside in
    let book : FlightBook = book_of f.good f.bound f.price f.standing.items f.closed in
    let kept : FlightStandsFor book setup past = rw c.self.view_is stood in
    let le : c.args.agent ≤ 7 = omega (arith, c.get-number.ensures.range, c.get-number.ensures.value) in
    let nothing : list_any (is_points_agent c.args.agent) f.standing.items ≡ false =
    ap (λ (n : ℕ). list_any (is_points_agent n) f.standing.items) (sym c.get-number.ensures.value) ∙ ap (list_any (is_points_agent c.get-number.result)) (sym c.deref.ensures.0) ∙ sym c.has_points.ensures ∙ c.if-not-has_points.true in
    rw (← c.self.view_is) (follows_without_bid setup past book kept c.args.agent le c.if-self.false nothing)

pub invariant_of-self : goal.invariant_of-self
invariant_of-self c =
    let f = c.self.inside in
    rw c.forget.ensures (sound_forgotten f.bound f.price f.standing.items c.get-number.result c.self.invariant)

pub returns-clause-follows : goal.returns-clause-follows
returns-clause-follows c = λ setup past stood here.
    let f = c.self.inside in
    let book : FlightBook = book_of f.good f.bound f.price f.standing.items f.closed in
    let kept : FlightStandsFor book setup past = rw c.self.view_is stood in
    let le : c.args.agent ≤ 7 = omega (arith, c.get-number.ensures.range, c.get-number.ensures.value) in
    let something : list_any (is_points_agent c.args.agent) f.standing.items ≡ true =
    ap (λ (n : ℕ). list_any (is_points_agent n) f.standing.items) (sym c.get-number.ensures.value) ∙ ap (list_any (is_points_agent c.get-number.result)) (sym c.deref.ensures.0) ∙ sym c.has_points.ensures ∙ c.if-not-has_points.false in
    follows_withdrawn setup past book kept c.args.agent c.forget.new.standing.items le c.if-self.false something (c.forget.ensures ∙ ap (λ (n : ℕ). others_than n f.standing.items) c.get-number.ensures.value)

pub returns-clause-units : goal.returns-clause-units
returns-clause-units c = rw (← c.self.view_is, c.forget.ensures) (forgotten_units c.get-number.result c.self.inside.standing.items)
