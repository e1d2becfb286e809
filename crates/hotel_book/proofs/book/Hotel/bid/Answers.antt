use Rattle.std.proofs.Common.{sym, ap, ◌∙◌}
use Rattle.hotel_book.specs.Book.{HotelBook, HotelStandsFor, with_bid}
use Rattle.hotel_book.proofs.Keeping.{book_of, follows_refused_bid, follows_taken}
use Rattle.hotel_book.proofs.Showing.{wins_by_rules}
use Rattle.hotel_book.proofs.book.Hotel.bid.Goals as goal

pub returns-in-Some-clause-follows : goal.returns-in-Some-clause-follows
returns-in-Some-clause-follows c = λ setup past stood here.
    let book : HotelBook = book_of c.self.inside.ranking.rooms c.self.inside.live c.self.inside.good c.self.inside.bids c.self.inside.published c.self.inside.closed in
    let kept : HotelStandsFor book setup past = rw c.self.view_is stood in
    rw (← c.self.view_is)
    (follows_refused_bid setup past c.args.agent c.winning-won.result c.args.points.now book c.in-Some.reply c.clear.new.self c.winning-won.ensures.agent kept
    (c.winning-won.ensures.value ∙ wins_by_rules setup past book c.self.inside.ranking.units kept c.self.invariant.shown c.winning-won.ensures.sorted c.args.agent)
    (sym c.refusal.ensures ∙ c.in-Some.is) c.clear.ensures)

pub returns-in-None-clause-follows : goal.returns-in-None-clause-follows
returns-in-None-clause-follows c = λ setup past stood here.
    let book : HotelBook = book_of c.self.inside.ranking.rooms c.self.inside.live c.self.inside.good c.self.inside.bids c.self.inside.published c.self.inside.closed in
    let kept : HotelStandsFor book setup past = rw c.self.view_is stood in
    follows_taken setup past c.args.at c.args.agent c.winning-won.result c.args.points.now book c.place.new.self c.clear.new.self c.winning-won.ensures.agent here kept
    (c.winning-won.ensures.value ∙ wins_by_rules setup past book c.self.inside.ranking.units kept c.self.invariant.shown c.winning-won.ensures.sorted c.args.agent)
    (sym c.refusal.ensures ∙ c.in-None.is)
    (c.place.ensures ∙ ap (λ (b : HotelBook). with_bid b (record { agent = c.args.agent; position = c.args.at; points = c.args.points.now })) (sym c.self.view_is)) c.clear.ensures
