use Rattle.std.proofs.Common.{◌∙◌}
use Rattle.hotel_book.specs.Book.{HotelBook, HotelStandsFor}
use Rattle.hotel_book.proofs.Keeping.{book_of}
use Rattle.hotel_book.proofs.Showing.{asked}
use Rattle.hotel_book.proofs.book.Hotel.ask.Goals as goal

pub returns-clause-ask : goal.returns-clause-ask
returns-clause-ask c = λ setup past stood.
    let book : HotelBook = book_of c.self.inside.ranking.rooms c.self.inside.live c.self.inside.good c.self.inside.bids c.self.inside.published c.self.inside.closed in
    let kept : HotelStandsFor book setup past = rw c.self.view_is stood in
    rw (← c.self.view_is) (c.ask.ensures.value ∙ asked setup past book c.self.inside.ranking.units kept c.self.invariant.shown c.ask.ensures.sorted c.ask.ensures.some)
