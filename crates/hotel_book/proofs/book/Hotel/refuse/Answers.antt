use Rattle.std.proofs.Common.{◌≡◌, true, ◌||◌, sym, subst}
use Rattle.hotel_book.specs.{Hotel as HotelRules, is_wrong_caller, is_wrong_place, HotelBook, HotelStandsFor}
use Rattle.hotel_book.proofs.Keeping.{book_of, follows_wrong}
use Rattle.hotel_book.proofs.book.Hotel.refuse.Goals as goal

pub returns : goal.returns
returns c = λ setup past stood.
    let book : HotelBook = book_of c.self.inside.ranking.rooms c.self.inside.live c.self.inside.good c.self.inside.bids c.self.inside.published c.self.inside.closed in
    let kept : HotelStandsFor book setup past = rw c.self.view_is stood in
    rw (← c.self.view_is) (follows_wrong setup past c.args.caller c.args.call.now book c.wrong_reply.result kept
    (subst (λ (b : HotelBook). (is_wrong_caller c.args.caller c.args.call.now || is_wrong_place (HotelRules b.rooms b.live) c.args.call.now) ≡ true) (sym c.self.view_is) c.requires) c.wrong_reply.ensures)
