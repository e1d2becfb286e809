use Rattle.std.proofs.Common.{◌≡◌, ℕ, ◌≤◌, true, false, List, length, length-set, set, sym, ap, ◌∙◌, subst, arith, Option, Some, Bool, if◌then◌else◌}
use Rattle.hotel_book.specs.{BID_PRICE, Point, Unit as ShownUnit, Placed, AreShown, units_of_bids, ask, last_price, HotelBook, AreOwn, standing, with_bid}
use Rattle.hotel_book.proofs.Bids.{room_for_bid, own_replaced, shown_replaced}
use Rattle.hotel_book.proofs.Winners.{ask_is}
use Rattle.hotel_book.proofs.book.Hotel.place.Goals as goal

-- in an open hotel the ranked units are those of the bids
shown_open : (bids : List (Option Placed)) (closed : Bool) (units : List ShownUnit) (book : HotelBook) → closed ≡ book.closed → book.closed ≡ false → AreShown (standing bids closed) units → AreShown (units_of_bids bids) units
shown_open bids closed units book same not_closed shown = subst (λ (b : Bool). AreShown (standing bids b) units) (same ∙ not_closed) shown

either_within : (live : Bool) (price ask published : ℕ) → price ≡ (if live then ask else published) → ask ≤ BID_PRICE → published ≤ BID_PRICE → price ≤ BID_PRICE
either_within true price ask published is h k = subst (λ (n : ℕ). n ≤ BID_PRICE) (sym is) h
either_within false price ask published is h k = subst (λ (n : ℕ). n ≤ BID_PRICE) (sym is) k

pub replace-requires : goal.replace-requires
replace-requires c =
    let eight : length c.self.inside.bids ≡ 8 = c.self.invariant.eight in
    let agent : c.args.agent ≤ 7 = omega (arith, c.get.ensures.value, c.get.ensures.range) in
    room_for_bid c.args.agent c.self.inside.bids c.self.inside.ranking.units (omega (arith, agent, eight)) eight c.self.invariant.own
    (shown_open c.self.inside.bids c.self.inside.closed c.self.inside.ranking.units c.args.self.now (ap (λ (b : HotelBook). b.closed) c.self.view_is) c.requires c.self.invariant.shown)

pub invariant_of-self : goal.invariant_of-self
invariant_of-self c =
    let new : Placed = record { agent = c.args.agent; position = c.args.at; points = c.copy.result } in
    let eight : length c.self.inside.bids ≡ 8 = c.self.invariant.eight in
    let agent : c.args.agent ≤ 7 = omega (arith, c.get.ensures.value, c.get.ensures.range) in
    let place : c.from-number.result ≡ c.args.agent = omega (arith, c.get.ensures.value, c.from-number.ensures) in
    let open_now : c.self.inside.closed ≡ false = ap (λ (b : HotelBook). b.closed) c.self.view_is ∙ c.requires in
    let shown : AreShown (units_of_bids (set c.self.inside.bids c.args.agent (Some new))) c.replace.new.self.units =
    shown_replaced c.self.inside.bids new c.self.inside.ranking.units c.replace.new.self.units (omega (arith, agent, eight)) c.self.invariant.own
    (shown_open c.self.inside.bids c.self.inside.closed c.self.inside.ranking.units c.args.self.now (ap (λ (b : HotelBook). b.closed) c.self.view_is) c.requires c.self.invariant.shown)
    c.replace.ensures.units in
    record {
      eight = length-set c.self.inside.bids c.from-number.result (Some new) ∙ eight;
      own = subst (λ (n : ℕ). AreOwn 0 (set c.self.inside.bids n (Some new))) (sym place) (own_replaced 0 c.args.agent c.self.inside.bids new (omega arith) c.replace.ensures.few c.self.invariant.own);
      shown = subst (λ (b : Bool). AreShown (standing (set c.self.inside.bids c.from-number.result (Some new)) b) c.replace.new.self.units) (sym open_now)
          (subst (λ (n : ℕ). AreShown (units_of_bids (set c.self.inside.bids n (Some new))) c.replace.new.self.units) (sym place) shown);
      priced = either_within c.self.inside.live c.after_bid-self-inside.result c.ask.result c.self.inside.published c.after_bid-self-inside.ensures c.ask.ensures.within c.self.invariant.priced;
    }

pub returns : goal.returns
returns c =
    let new : Placed = record { agent = c.args.agent; position = c.args.at; points = c.copy.result } in
    let eight : length c.self.inside.bids ≡ 8 = c.self.invariant.eight in
    let agent : c.args.agent ≤ 7 = omega (arith, c.get.ensures.value, c.get.ensures.range) in
    let place : c.from-number.result ≡ c.args.agent = omega (arith, c.get.ensures.value, c.from-number.ensures) in
    let rooms = c.self.inside.ranking.rooms in
    let shown : AreShown (units_of_bids (set c.self.inside.bids c.args.agent (Some new))) c.replace.new.self.units =
    shown_replaced c.self.inside.bids new c.self.inside.ranking.units c.replace.new.self.units (omega (arith, agent, eight)) c.self.invariant.own
    (shown_open c.self.inside.bids c.self.inside.closed c.self.inside.ranking.units c.args.self.now (ap (λ (b : HotelBook). b.closed) c.self.view_is) c.requires c.self.invariant.shown)
    c.replace.ensures.units in
    let some : 1 ≤ rooms = omega (arith, c.ask.ensures.some, c.replace.ensures.rooms) in
    let asked : c.ask.result ≡ ask rooms (units_of_bids (set c.self.inside.bids c.args.agent (Some new))) =
    c.ask.ensures.value ∙ ap (λ (n : ℕ). last_price n c.replace.new.self.units) c.replace.ensures.rooms
    ∙ ask_is rooms (units_of_bids (set c.self.inside.bids c.args.agent (Some new))) c.replace.new.self.units some shown c.ask.ensures.sorted in
    let quoted : c.after_bid-self-inside.result ≡ (if c.self.inside.live then ask rooms (units_of_bids (set c.self.inside.bids c.args.agent (Some new))) else c.self.inside.published) =
    c.after_bid-self-inside.ensures ∙ ap (λ (n : ℕ). if c.self.inside.live then n else c.self.inside.published) asked in
    let after : HotelBook → List Point → HotelBook = λ book points. with_bid book (record { agent = c.args.agent; position = c.args.at; points = points }) in
    (λ i. record {
      good = c.self.inside.good;
      rooms = c.replace.ensures.rooms i;
      live = c.self.inside.live;
      bids = set c.self.inside.bids (place i) (Some new);
      published = quoted i;
      closed = c.self.inside.closed;
    })
    ∙ ap (λ (book : HotelBook). after book c.copy.result) c.self.view_is ∙ ap (after c.args.self.now) c.copy.ensures.value
