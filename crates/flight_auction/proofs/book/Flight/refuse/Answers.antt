use Rattle.flight_auction.specs.Book.{FlightBook, FlightStandsFor}
use Rattle.flight_auction.proofs.Keeping.{book_of, follows_wrong}
use Rattle.flight_auction.proofs.book.Flight.refuse.Goals as goal

pub returns : goal.returns
returns c = λ setup past stood.
    let f = c.self.inside in
    let book : FlightBook = book_of f.good f.bound f.price f.standing.items f.closed in
    let kept : FlightStandsFor book setup past = rw c.self.view_is stood in
    rw (← c.self.view_is) (follows_wrong setup past book kept c.args.caller c.args.call.now c.wrong_reply.result c.requires c.wrong_reply.ensures)
