use Rattle.std.proofs.Common.{None, refl, set}
use Rattle.ticket_book.specs.Book.{TicketBook, TicketsStandFor}
use Rattle.ticket_book.proofs.Keeping.{book_of, follows_without_bid, follows_withdrawn}
use Rattle.ticket_book.proofs.book.Tickets.withdraw.Goals as goal

pub returns-then-not-has_units_of : goal.returns-then-not-has_units_of
returns-then-not-has_units_of c = λ setup past stood here.
    let t = c.self.inside in
    let book : TicketBook = book_of t.good t.bids t.sides t.closed in
    let kept : TicketsStandFor book setup past = rw c.self.view_is stood in
    rw (← c.self.view_is)
    (follows_without_bid setup past book kept c.args.agent c.has_units_of.result c.has_units_of.ensures.agent c.if-self.false c.has_units_of.ensures.value c.if-not-has_units_of.true)

pub returns : goal.returns
returns c = λ setup past stood here.
    let t = c.self.inside in
    let book : TicketBook = book_of t.good t.bids t.sides t.closed in
    let kept : TicketsStandFor book setup past = rw c.self.view_is stood in
    follows_withdrawn setup past book kept c.args.agent c.has_units_of.result (set t.bids c.get.result None) c.take_out_of.new.self c.has_units_of.ensures.agent c.if-self.false c.has_units_of.ensures.value
    c.if-not-has_units_of.false (rw c.get.ensures.value refl) c.take_out_of.ensures
