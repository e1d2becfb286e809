use Rattle.std.proofs.Common.{◌∙◌}
use Rattle.hotel_book.specs.Book.{HotelBook, HotelStandsFor}
use Rattle.hotel_book.proofs.Keeping.{book_of}
use Rattle.hotel_book.proofs.Showing.{wins_by_rules}
use Rattle.hotel_book.proofs.book.Hotel.winning.Goals as goal

pub returns : goal.returns
returns c = λ setup past stood.
    let book : HotelBook = book_of c.self.inside.ranking.rooms c.self.inside.live c.self.inside.good c.self.inside.bids c.self.inside.published c.self.inside.closed in
    let kept : HotelStandsFor book setup past = rw c.self.view_is stood in
    rw (← c.self.view_is) (c.winning.ensures.value ∙ wins_by_rules setup past book c.self.inside.ranking.units kept c.self.invariant.shown c.winning.ensures.sorted c.args.agent)
