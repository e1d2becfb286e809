use Rattle.std.proofs.Common.{◌≡◌, ◌+◌, ◌≤◌, ◌≢◌, List, ◌++◌, refl, ap, sym, ◌∙◌, arith}
use Rattle.std.proofs.lemmas.List.Elements.{recursion_from_All}
use Rattle.flight_auction.specs.{Point, Trade, Bid, size_of, bought, sells, owned_by, FlightBook, FlightStandsFor, others_than, sales, unsold, units_standing}
use Rattle.flight_auction.proofs.Keeping.{book_of, follows_on_closed, follows_seller, follows_taken}
use Rattle.flight_auction.proofs.Limits.{sound_placed, sound_unsold, few_of_all, few_bought, placed_is, length-placed}
use Rattle.flight_auction.proofs.Paying.{bid_paid}
use Rattle.auction_rules.proofs.Trading.{nothing_spent}
use Rattle.flight_auction.proofs.Spending.{sales_short, sales_spend, placed_units}
use Rattle.flight_auction.proofs.book.Flight.bid.Goals as goal

pub returns-then-self-clause-follows : goal.returns-then-self-clause-follows
returns-then-self-clause-follows c = λ setup past stood here.
    let f = c.self.inside in
    let book : FlightBook = book_of f.good f.bound f.price f.standing.items f.closed in
    let kept : FlightStandsFor book setup past = rw c.self.view_is stood in
    rw (← c.self.view_is) (follows_on_closed setup past book kept c.args.agent (Bid c.args.points.now) c.clear.new.self refl c.if-self.true c.clear.ensures)

pub returns-then-sells-clause-follows : goal.returns-then-sells-clause-follows
returns-then-sells-clause-follows c = λ setup past stood here.
    let f = c.self.inside in
    let book : FlightBook = book_of f.good f.bound f.price f.standing.items f.closed in
    let kept : FlightStandsFor book setup past = rw c.self.view_is stood in
    let le : c.args.agent ≤ 7 = omega (arith, c.get-number.ensures.range, c.get-number.ensures.value) in
    rw (← c.self.view_is) (follows_seller setup past book kept c.args.agent c.args.points.now c.clear.new.self le c.if-self.false
    (ap sells (sym c.as_slice-points.ensures.value) ∙ sym c.sells.ensures ∙ c.if-sells.true) c.clear.ensures)

pub place-requires : goal.place-requires
place-requires c =
    let f = c.self.inside in
    let agent = c.args.agent in
    let points = c.args.points.now in
    let le : c.args.agent ≤ 7 = omega (arith, c.get-number.ensures.range, c.get-number.ensures.value) in
    let sound = sound_placed f.bound f.price f.standing.items agent points le c.as_slice-points.ensures.bid c.self.invariant in
    omega (
      arith,
      few_of_all f.bound f.price (others_than agent f.standing.items ++ owned_by agent points) sound,
      length-placed c.get-number.result agent f.standing.items c.forget.new.standing.items c.as_slice-points.result.now points c.get-number.ensures.value c.as_slice-points.ensures.value c.forget.ensures,
    )

pub overflow_cast-result : goal.overflow_cast-result
overflow_cast-result c =
    let f = c.self.inside in
    let agent = c.args.agent in
    let points = c.args.points.now in
    let le : c.args.agent ≤ 7 = omega (arith, c.get-number.ensures.range, c.get-number.ensures.value) in
    let sound = sound_placed f.bound f.price f.standing.items agent points le c.as_slice-points.ensures.bid c.self.invariant in
    let placed = placed_is c.get-number.result agent f.standing.items c.forget.new.standing.items c.place.new.standing.items c.as_slice-points.result.now points
    c.get-number.ensures.value c.as_slice-points.ensures.value c.forget.ensures c.place.ensures in
    let is : c.bought.result ≡ bought (sales f.good f.price (others_than agent f.standing.items ++ owned_by agent points)) c.get-number.result =
    c.bought.ensures ∙ ap (λ (ts : List Trade). bought ts c.get-number.result) (c.as_slice.ensures.value ∙ c.sell.ensures.trades ∙ ap (sales f.good f.price) placed) in
    record { fits = omega (arith, is, few_bought f.bound f.price f.price f.good c.get-number.result (others_than agent f.standing.items ++ owned_by agent points) sound) }

pub invariant_of-self : goal.invariant_of-self
invariant_of-self c =
    let f = c.self.inside in
    let agent = c.args.agent in
    let points = c.args.points.now in
    let le : c.args.agent ≤ 7 = omega (arith, c.get-number.ensures.range, c.get-number.ensures.value) in
    let placed = placed_is c.get-number.result agent f.standing.items c.forget.new.standing.items c.place.new.standing.items c.as_slice-points.result.now points
    c.get-number.ensures.value c.as_slice-points.ensures.value c.forget.ensures c.place.ensures in
    rw (c.sell.ensures.left, placed)
    (sound_unsold f.bound f.price f.price (others_than agent f.standing.items ++ owned_by agent points)
    (sound_placed f.bound f.price f.standing.items agent points le c.as_slice-points.ensures.bid c.self.invariant))

pub returns-clause-follows : goal.returns-clause-follows
returns-clause-follows c = λ setup past stood here.
    let f = c.self.inside in
    let agent = c.args.agent in
    let book : FlightBook = book_of f.good f.bound f.price f.standing.items f.closed in
    let kept : FlightStandsFor book setup past = rw c.self.view_is stood in
    let le : c.args.agent ≤ 7 = omega (arith, c.get-number.ensures.range, c.get-number.ensures.value) in
    let placed = placed_is c.get-number.result agent f.standing.items c.forget.new.standing.items c.place.new.standing.items c.as_slice-points.result.now c.args.points.now
    c.get-number.ensures.value c.as_slice-points.ensures.value c.forget.ensures c.place.ensures in
    follows_taken setup past book kept c.args.at agent c.args.points.now c.sell.new.standing.items c.bought.result c.sell.new.fills here le c.if-self.false
    (ap sells (sym c.as_slice-points.ensures.value) ∙ sym c.sells.ensures ∙ c.if-sells.false)
    (recursion_from_All (λ (p : Point). size_of p ≢ 0) c.args.points.now c.as_slice-points.ensures.no_empty)
    (c.sell.ensures.left ∙ ap (unsold f.price) placed) (c.sell.ensures.trades ∙ ap (sales f.good f.price) placed)
    (c.bought.ensures ∙ rw (c.as_slice.ensures.value, c.get-number.ensures.value) refl)

pub returns-clause-paid : goal.returns-clause-paid
returns-clause-paid c =
    let f = c.self.inside in
    let agent = c.args.agent in
    let placed = placed_is c.get-number.result agent f.standing.items c.forget.new.standing.items c.place.new.standing.items c.as_slice-points.result.now c.args.points.now
    c.get-number.ensures.value c.as_slice-points.ensures.value c.forget.ensures c.place.ensures in
    rw (← c.self.view_is)
    (bid_paid f.good f.price agent f.standing.items (owned_by agent c.args.points.now) c.sell.new.fills (c.sell.ensures.trades ∙ ap (sales f.good f.price) placed))

pub returns-then-self-clause-units : goal.returns-then-self-clause-units
returns-then-self-clause-units c = nothing_spent _ _ c.clear.new.self c.clear.ensures (omega arith)

pub returns-then-sells-clause-units : goal.returns-then-sells-clause-units
returns-then-sells-clause-units c = nothing_spent _ _ c.clear.new.self c.clear.ensures (omega arith)

pub returns-clause-units : goal.returns-clause-units
returns-clause-units c =
    let f = c.self.inside in
    let agent = c.args.agent in
    let points = c.args.points.now in
    let le : c.args.agent ≤ 7 = omega (arith, c.get-number.ensures.range, c.get-number.ensures.value) in
    let placed = placed_is c.get-number.result agent f.standing.items c.forget.new.standing.items c.place.new.standing.items c.as_slice-points.result.now points
    c.get-number.ensures.value c.as_slice-points.ensures.value c.forget.ensures c.place.ensures in
    rw (← c.self.view_is)
    (sales_spend f.good f.price f.price (units_standing f.standing.items + 16) f.bound (others_than agent f.standing.items ++ owned_by agent points) c.sell.new.standing.items c.sell.new.fills
    (sound_placed f.bound f.price f.standing.items agent points le c.as_slice-points.ensures.bid c.self.invariant) (placed_units agent f.standing.items points c.as_slice-points.ensures.small)
    (c.sell.ensures.trades ∙ ap (sales f.good f.price) placed) (c.sell.ensures.left ∙ ap (unsold f.price) placed))

pub returns-clause-short : goal.returns-clause-short
returns-clause-short c =
    let f = c.self.inside in
    let agent = c.args.agent in
    let points = c.args.points.now in
    let le : c.args.agent ≤ 7 = omega (arith, c.get-number.ensures.range, c.get-number.ensures.value) in
    let placed = placed_is c.get-number.result agent f.standing.items c.forget.new.standing.items c.place.new.standing.items c.as_slice-points.result.now points
    c.get-number.ensures.value c.as_slice-points.ensures.value c.forget.ensures c.place.ensures in
    sales_short f.good f.price f.price f.bound (others_than agent f.standing.items ++ owned_by agent points) c.sell.new.fills
    (sound_placed f.bound f.price f.standing.items agent points le c.as_slice-points.ensures.bid c.self.invariant) c.self.invariant.price_to (c.sell.ensures.trades ∙ ap (sales f.good f.price) placed)
