use Rattle.std.proofs.Common.{◌≡◌, ◌≤◌, List, Some, refl, sym, ap, ◌∙◌, arith, set, length, sum_by}
use Rattle.ticket_book.specs.{Trade, Placed, units_of, bought, sold, crosses_itself, ticket_trades, both, after_bid, TicketBook, TicketsStandFor}
use Rattle.auction_rules.proofs.Trading.{nothing_spent}
use Rattle.ticket_book.proofs.Trades.{few_bought, few_sold, bid_spends, trades_priced}
use Rattle.ticket_book.proofs.Keeping.{book_of, follows_crossing, follows_taken}
use Rattle.ticket_book.proofs.book.Tickets.bid.Goals as goal

pub overflow_cast-result : goal.overflow_cast-result
overflow_cast-result c =
    let bid : Placed = record { agent = c.args.agent; position = c.args.at; points = c.copy.result } in
    omega (
      arith,
      few_bought c.self.inside.good c.get-number.result (both c.self.inside.sides) (units_of bid) c.trade.new.fills c.trade.ensures.trades,
      c.trade.ensures.few,
      c.bought.ensures ∙ ap (λ (ts : List Trade). bought ts c.get-number.result) c.as_slice-2.ensures.value,
    )

pub overflow_cast-result-2 : goal.overflow_cast-result-2
overflow_cast-result-2 c =
    let bid : Placed = record { agent = c.args.agent; position = c.args.at; points = c.copy.result } in
    omega (
      arith,
      few_sold c.self.inside.good c.get-number.result (both c.self.inside.sides) (units_of bid) c.trade.new.fills c.trade.ensures.trades,
      c.trade.ensures.few,
      c.sold.ensures ∙ ap (λ (ts : List Trade). sold ts c.get-number.result) c.as_slice-3.ensures.value,
    )

pub returns-then-crosses_itself-clause-follows : goal.returns-then-crosses_itself-clause-follows
returns-then-crosses_itself-clause-follows c = λ setup past stood here.
    let t = c.self.inside in
    let book : TicketBook = book_of t.good t.bids t.sides t.closed in
    let kept : TicketsStandFor book setup past = rw c.self.view_is stood in
    let le : c.args.agent ≤ 7 = omega (arith, c.get-number.ensures.range, c.get-number.ensures.value) in
    rw (← c.self.view_is)
    (follows_crossing setup past book kept c.args.agent c.args.points.now c.clear.new.self le c.if-self.false
    (ap crosses_itself (sym c.as_slice.ensures.value) ∙ sym c.crosses_itself.ensures ∙ c.if-crosses_itself.true) c.clear.ensures)

pub returns-clause-follows : goal.returns-clause-follows
returns-clause-follows c = λ setup past stood here.
    let t = c.self.inside in
    let book : TicketBook = book_of t.good t.bids t.sides t.closed in
    let kept : TicketsStandFor book setup past = rw c.self.view_is stood in
    let le : c.args.agent ≤ 7 = omega (arith, c.get-number.ensures.range, c.get-number.ensures.value) in
    let bid : Placed = record { agent = c.args.agent; position = length past; points = c.args.points.now } in
    let placed : Placed = record { agent = c.args.agent; position = c.args.at; points = c.copy.result } in
    let placed_is : placed ≡ bid = rw (c.copy.ensures.value, here) refl in
    let trades = c.trade.new.fills in
    follows_taken setup past book kept c.args.agent c.args.points.now (set t.bids c.get-number.result (Some placed)) c.trade.new.self trades
    c.bought.result c.sold.result le c.if-self.false
    (ap crosses_itself (sym c.as_slice.ensures.value) ∙ sym c.crosses_itself.ensures ∙ c.if-crosses_itself.false)
    (c.trade.ensures.trades ∙ ap (λ (b : Placed). ticket_trades t.good (both t.sides) (units_of b)) placed_is)
    (λ weight. c.trade.ensures.units weight ∙ ap (λ (b : Placed). sum_by weight (after_bid (both t.sides) c.args.agent (units_of b))) placed_is)
    (rw (c.get-number.ensures.value, placed_is) refl)
    (c.bought.ensures ∙ rw (c.as_slice-2.ensures.value, c.get-number.ensures.value) refl)
    (c.sold.ensures ∙ rw (c.as_slice-3.ensures.value, c.get-number.ensures.value) refl)

pub returns-clause-with_others : goal.returns-clause-with_others
returns-clause-with_others c =
    (trades_priced c.self.inside.good (both c.self.inside.sides) _ c.trade.new.fills c.trade.ensures.priced c.trade.ensures.trades).0

pub returns-clause-priced : goal.returns-clause-priced
returns-clause-priced c =
    (trades_priced c.self.inside.good (both c.self.inside.sides) _ c.trade.new.fills c.trade.ensures.priced c.trade.ensures.trades).1

pub returns-then-self-clause-units : goal.returns-then-self-clause-units
returns-then-self-clause-units c = nothing_spent 16 0 c.clear.new.self c.clear.ensures (omega arith)

pub returns-then-crosses_itself-clause-units : goal.returns-then-crosses_itself-clause-units
returns-then-crosses_itself-clause-units c = nothing_spent 16 0 c.clear.new.self c.clear.ensures (omega arith)

pub returns-clause-units : goal.returns-clause-units
returns-clause-units c = bid_spends c.self.inside.good (both c.self.inside.sides) _ c.trade.new.fills c.trade.ensures.trades c.trade.ensures.few
