use Rattle.std.proofs.Common.{◌≡◌, ℕ, ◌≤◌, Some, None, get_or, sym, ◌∙◌, ap, arith}
use Rattle.hotel_book.specs.Book.{HotelBook, HotelStandsFor}
use Rattle.hotel_book.proofs.Keeping.{book_of}
use Rattle.hotel_book.proofs.Owning.{left_open, left_closed, left_without_bid}
use Rattle.hotel_book.proofs.book.Hotel.own.Goals.{in_default-via-in-Some+else-not-self, in_default-via-in_default}
use Rattle.hotel_book.proofs.book.Hotel.own.Goals as goal

pub returns-in-Some-clause-left : goal.returns-in-Some-clause-left
returns-in-Some-clause-left c = λ setup past stood.
    let book : HotelBook = book_of c.self.inside.ranking.rooms c.self.inside.live c.self.inside.good c.self.inside.bids c.self.inside.published c.self.inside.closed in
    let kept : HotelStandsFor book setup past = rw c.self.view_is stood in
    let le : c.args.agent ≤ 7 = omega (arith, c.get.ensures.range, c.get.ensures.value) in
    let at : get_or c.self.inside.bids c.args.agent c.index-self-get.result ≡ Some c.in-Some.bid =
    ap (λ (n : ℕ). get_or c.self.inside.bids n c.index-self-get.result) (sym c.get.ensures.value) ∙ c.in-Some.is in
    c.new.ensures ∙ c.as_slice.ensures.value
    ∙ sym (left_open setup past book c.args.agent c.index-self-get.result c.in-Some.bid kept c.if-not-self.true le at c.as_slice.ensures.no_empty)

pub returns-in_default-clause-left : goal.returns-in_default-clause-left
returns-in_default-clause-left c = λ setup past stood.
    let book : HotelBook = book_of c.self.inside.ranking.rooms c.self.inside.live c.self.inside.good c.self.inside.bids c.self.inside.published c.self.inside.closed in
    let kept : HotelStandsFor book setup past = rw c.self.view_is stood in
    let le : c.args.agent ≤ 7 = omega (arith, c.get.ensures.range, c.get.ensures.value) in
    c.none.ensures ∙ sym (elim c.in_default.branch [
      | in_default-via-in-Some+else-not-self w ↦ left_closed setup past book c.args.agent kept w.if-not-self.false
      | in_default-via-in_default w ↦
          let at : get_or c.self.inside.bids c.args.agent c.index-self-get.result ≡ None =
          ap (λ (n : ℕ). get_or c.self.inside.bids n c.index-self-get.result) (sym c.get.ensures.value) ∙ w.in_default.is in
          left_without_bid setup past book c.args.agent c.index-self-get.result kept le at
    ])
