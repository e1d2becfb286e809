use Rattle.std.proofs.Common.{ℕ, min, refl, sym, ap, ◌∙◌, arith}
use Rattle.hotel_book.specs.{won, last_price, HotelBook, HotelStandsFor, winner_trades}
use Rattle.hotel_book.proofs.Keeping.{book_of, follows_closed}
use Rattle.hotel_book.proofs.Showing.{asked, wins, as_many}
use Rattle.hotel_book.proofs.Bids.{few_won}
use Rattle.hotel_book.proofs.Selling.{closing_spends, closing_short}
use Rattle.auction_rules.proofs.Trading.{nothing_spent}
use Rattle.hotel_book.proofs.book.Hotel.close.Goals as goal

pub returns-clause-follows : goal.returns-clause-follows
returns-clause-follows c = λ setup past stood here.
    let book : HotelBook = book_of c.self.inside.ranking.rooms c.self.inside.live c.self.inside.good c.self.inside.bids c.self.inside.published c.self.inside.closed in
    let kept : HotelStandsFor book setup past = rw c.self.view_is stood in
    let units = c.self.inside.ranking.units in
    rw c.clear-2.ensures.rooms
    (follows_closed setup past book c.taken-units.result c.ask-price.result (won book.rooms units) c.fill.new.fills kept c.if-self.false
    (c.taken-units.ensures.value ∙ ap (min book.rooms) (as_many setup past book units kept c.self.invariant.shown))
    (c.ask-price.ensures.value ∙ asked setup past book units kept c.self.invariant.shown c.ask-price.ensures.sorted c.ask-price.ensures.some)
    (λ agent le. wins setup past book units kept c.self.invariant.shown c.ask-price.ensures.sorted agent)
    (c.fill.ensures ∙ ap (λ (price : ℕ). winner_trades c.self.inside.good price (won book.rooms units)) (sym c.ask-price.ensures.value)))

pub returns-clause-sells : goal.returns-clause-sells
returns-clause-sells c = λ setup past stood open_now.
    let book : HotelBook = book_of c.self.inside.ranking.rooms c.self.inside.live c.self.inside.good c.self.inside.bids c.self.inside.published c.self.inside.closed in
    let kept : HotelStandsFor book setup past = rw c.self.view_is stood in
    let units = c.self.inside.ranking.units in
    rw (
      ← c.self.view_is,
      c.taken-units.ensures.value ∙ ap (min book.rooms) (as_many setup past book units kept c.self.invariant.shown),
      c.ask-price.ensures.value ∙ asked setup past book units kept c.self.invariant.shown c.ask-price.ensures.sorted c.ask-price.ensures.some,
    ) refl

pub returns-then-self-clause-units : goal.returns-then-self-clause-units
returns-then-self-clause-units c = nothing_spent _ _ c.clear.new.self c.clear.ensures (omega arith)

pub returns-clause-units : goal.returns-clause-units
returns-clause-units c =
    rw (← c.self.view_is, c.if-self.false)
    (closing_spends c.self.inside.good (last_price c.self.inside.ranking.rooms c.self.inside.ranking.units) c.self.inside.ranking.rooms c.self.inside.ranking.units c.fill.new.fills c.taken-units.ensures.few c.fill.ensures)

pub returns-clause-short : goal.returns-clause-short
returns-clause-short c =
    closing_short c.self.inside.good (last_price c.self.inside.ranking.rooms c.self.inside.ranking.units) (won c.self.inside.ranking.rooms c.self.inside.ranking.units) c.fill.new.fills
    (omega (arith, c.ask-price.ensures.value, c.ask-price.ensures.within))
    (λ agent. few_won c.self.inside.ranking.rooms agent c.self.inside.bids c.self.inside.closed c.self.inside.ranking.units c.self.invariant.own c.self.invariant.shown) c.fill.ensures
