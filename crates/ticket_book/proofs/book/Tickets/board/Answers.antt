use Rattle.ticket_book.specs.Book.{TicketBook, TicketsStandFor}
use Rattle.ticket_book.proofs.Keeping.{book_of, shows, uncrossed}
use Rattle.ticket_book.proofs.book.Tickets.board.Goals as goal

pub returns-clause-board : goal.returns-clause-board
returns-clause-board c = λ setup past stood here.
    let t = c.self.inside in
    let book : TicketBook = book_of t.good t.bids t.sides t.closed in
    let kept : TicketsStandFor book setup past = rw c.self.view_is stood in
    shows setup past book kept c.args.count c.highest_buy.result c.lowest_sell.result here c.highest_buy.ensures.value c.lowest_sell.ensures.value

pub returns-clause-uncrossed : goal.returns-clause-uncrossed
returns-clause-uncrossed c = λ setup past stood lawful.
    let t = c.self.inside in
    let book : TicketBook = book_of t.good t.bids t.sides t.closed in
    let kept : TicketsStandFor book setup past = rw c.self.view_is stood in
    uncrossed setup past book kept c.highest_buy.result c.lowest_sell.result c.highest_buy.ensures.value c.lowest_sell.ensures.value lawful
