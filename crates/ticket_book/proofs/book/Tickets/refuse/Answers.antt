use Rattle.ticket_book.specs.Book.{TicketBook, TicketsStandFor}
use Rattle.ticket_book.proofs.Keeping.{book_of, follows_wrong}
use Rattle.ticket_book.proofs.book.Tickets.refuse.Goals as goal

pub returns : goal.returns
returns c = λ setup past stood.
    let t = c.self.inside in
    let book : TicketBook = book_of t.good t.bids t.sides t.closed in
    let kept : TicketsStandFor book setup past = rw c.self.view_is stood in
    rw (← c.self.view_is) (follows_wrong setup past book kept c.args.caller c.args.call.now c.wrong_reply.result c.requires c.wrong_reply.ensures)
