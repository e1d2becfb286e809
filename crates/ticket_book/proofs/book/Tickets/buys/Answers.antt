use Rattle.ticket_book.specs.{Tickets as TicketRules, stand, TicketBook, TicketsStandFor}
use Rattle.ticket_book.proofs.Keeping.{book_of}
use Rattle.ticket_book.proofs.Placing.{buys_shown}
use Rattle.ticket_book.proofs.Untied.{buys_in_order}
use Rattle.ticket_book.proofs.book.Tickets.buys.Goals as goal

pub returns-clause-units : goal.returns-clause-units
returns-clause-units c = λ setup past stood.
    let t = c.self.inside in
    let book : TicketBook = book_of t.good t.bids t.sides t.closed in
    let kept : TicketsStandFor book setup past = rw c.self.view_is stood in
    rw (c.side.ensures.value, kept.rules) (buys_shown t.sides (stand TicketRules past) kept.units)

pub returns-clause-order : goal.returns-clause-order
returns-clause-order c = λ setup past stood.
    let t = c.self.inside in
    let book : TicketBook = book_of t.good t.bids t.sides t.closed in
    let kept : TicketsStandFor book setup past = rw c.self.view_is stood in
    rw c.side.ensures.value (buys_in_order past t.sides kept.units c.side.ensures.sorted)
