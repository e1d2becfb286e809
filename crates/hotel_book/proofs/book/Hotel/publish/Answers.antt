use Rattle.std.proofs.Common.{◌∙◌}
use Rattle.hotel_book.specs.Book.{HotelBook, HotelStandsFor}
use Rattle.hotel_book.proofs.Keeping.{book_of, follows_published}
use Rattle.hotel_book.proofs.Showing.{asked}
use Rattle.hotel_book.proofs.book.Hotel.publish.Goals as goal

pub returns-clause-follows : goal.returns-clause-follows
returns-clause-follows c = λ setup past stood here.
    let book : HotelBook = book_of c.self.inside.ranking.rooms c.self.inside.live c.self.inside.good c.self.inside.bids c.self.inside.published c.self.inside.closed in
    let kept : HotelStandsFor book setup past = rw c.self.view_is stood in
    follows_published setup past book c.ask-self-inside.result kept c.if-self.false
    (c.ask-self-inside.ensures.value ∙ asked setup past book c.self.inside.ranking.units kept c.self.invariant.shown c.ask-self-inside.ensures.sorted c.ask-self-inside.ensures.some)
