-- What stands of a bid in an open hotel is the whole bid, and nothing in a closed one.
use Rattle.std.proofs.Common.{◌≡◌, ℕ, ◌<◌, ◌≤◌, true, false, List, [], length, refl, sym, ap, ◌∙◌, arith, Option, Some, None, get_or, subst, All, ◌≢◌}
use Rattle.std.proofs.lemmas.List.Elements.{recursion_from_All}
use Rattle.hotel_book.specs.{Point, size_of, Placed, BidUnit, Setup, Rules, Hotel as HotelRules, Entry, units_of_last, last_bid, last_bids, is_closed, units_of_bids, left_of, standing_points_of, stand, HotelBook, HotelStandsFor}
use Rattle.auction_rules.proofs.Agents.{agents_get}
use Rattle.auction_rules.proofs.Standing.{AllAmong, all_among_bids, left_whole, left_none}
use Rattle.auction_rules.proofs.HotelUnits.{open_stand}

left_of_none : (bid : Option Placed) → left_of [] bid ≡ []
left_of_none None = refl
left_of_none (Some bid) = left_none bid.agent bid.position 0 bid.points

-- the bid of an agent, whole, where the units of all bids stand
left_of_bid : (bids : List (Option Placed)) (i : ℕ) (d : Option Placed) (bid : Placed) → i < length bids → get_or bids i d ≡ Some bid →
    All (λ (p : Point). size_of p ≢ 0) bid.points → left_of (units_of_bids bids) (Some bid) ≡ bid.points
left_of_bid bids i d bid h at full =
    left_whole (units_of_bids bids) bid.agent bid.position 0 bid.points
    (subst (λ (b : Option Placed). AllAmong (units_of_bids bids) (units_of_last b)) at (all_among_bids bids i d h)) (recursion_from_All _ bid.points full)

-- what is left to an agent in an open hotel
pub left_open : (setup : Setup) (past : List Entry) (book : HotelBook) (agent : ℕ) (d : Option Placed) (bid : Placed) →
    HotelStandsFor book setup past → book.closed ≡ false → agent ≤ 7 → get_or book.bids agent d ≡ Some bid → All (λ (p : Point). size_of p ≢ 0) bid.points →
    standing_points_of setup.rules past agent ≡ bid.points
left_open setup past book agent d bid stood not_closed le at full =
    let h : is_closed past ≡ false = sym (ap (λ (b : HotelBook). b.closed) stood.kept) ∙ not_closed in
    let kept : get_or (last_bids past) agent d ≡ Some bid = sym (ap (λ (b : HotelBook). get_or b.bids agent d) stood.kept) ∙ at in
    let last : last_bid agent past ≡ Some bid = sym (agents_get agent (λ (a : ℕ). last_bid a past) d le) ∙ kept in
    ap (λ (rules : Rules). standing_points_of rules past agent) stood.rules
    ∙ ap (λ (b : Option Placed). left_of (stand (HotelRules book.rooms book.live) past) b) last
    ∙ ap (λ (units : List BidUnit). left_of units (Some bid)) (open_stand book.rooms book.live past h)
    ∙ left_of_bid (last_bids past) agent d bid (omega arith) kept full

-- and in a closed one
pub left_closed : (setup : Setup) (past : List Entry) (book : HotelBook) (agent : ℕ) →
    HotelStandsFor book setup past → book.closed ≡ true → standing_points_of setup.rules past agent ≡ []
left_closed setup past book agent stood closed =
    let h : is_closed past ≡ true = sym (ap (λ (b : HotelBook). b.closed) stood.kept) ∙ closed in
    rw h (left_of_none (last_bid agent past))

-- and to one without a bid
pub left_without_bid : (setup : Setup) (past : List Entry) (book : HotelBook) (agent : ℕ) (d : Option Placed) →
    HotelStandsFor book setup past → agent ≤ 7 → get_or book.bids agent d ≡ None → standing_points_of setup.rules past agent ≡ []
left_without_bid setup past book agent d stood le at =
    let kept : get_or (last_bids past) agent d ≡ None = sym (ap (λ (b : HotelBook). get_or b.bids agent d) stood.kept) ∙ at in
    let last : last_bid agent past ≡ None = sym (agents_get agent (λ (a : ℕ). last_bid a past) d le) ∙ kept in
    ap (λ (bid : Option Placed). left_of (stand setup.rules past) bid) last
