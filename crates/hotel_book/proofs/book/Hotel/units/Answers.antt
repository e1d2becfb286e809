use Rattle.hotel_book.specs.Book.{HotelBook, HotelStandsFor}
use Rattle.hotel_book.proofs.Keeping.{book_of}
use Rattle.hotel_book.proofs.Showing.{permutes, follow}
use Rattle.hotel_book.proofs.book.Hotel.units.Goals as goal

pub returns-clause-units : goal.returns-clause-units
returns-clause-units c = λ setup past stood.
    let book : HotelBook = book_of c.self.inside.ranking.rooms c.self.inside.live c.self.inside.good c.self.inside.bids c.self.inside.published c.self.inside.closed in
    let kept : HotelStandsFor book setup past = rw c.self.view_is stood in
    rw c.units.ensures.value (permutes setup past book c.self.inside.ranking.units kept c.self.invariant.shown)

pub returns-clause-order : goal.returns-clause-order
returns-clause-order c = λ setup past stood.
    let book : HotelBook = book_of c.self.inside.ranking.rooms c.self.inside.live c.self.inside.good c.self.inside.bids c.self.inside.published c.self.inside.closed in
    let kept : HotelStandsFor book setup past = rw c.self.view_is stood in
    rw c.units.ensures.value (follow setup past book c.self.inside.ranking.units kept c.self.invariant.shown c.units.ensures.sorted)
