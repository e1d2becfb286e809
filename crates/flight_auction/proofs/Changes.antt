-- What one more entry changes in the standing points of a flight.
use Rattle.std.proofs.Common.{◌≡◌, ℕ, zero, suc, ◌+◌, ◌<◌, ◌≤◌, Bool, true, false, cond, List, [], ◌∷◌, ◌++◌, length, map, refl, sym, ap, ◌∙◌, subst, arith, append-nil, Option, Some, None, ℤ, not, ◌&&◌, ◌||◌, ◌==◌, ◌≢◌, nat_le, nat_lt, filter, if◌then◌else◌, flat_map}
use Rattle.std.specs.List.{AllByRecursion}
use Rattle.std.proofs.lemmas.Bool.Decides.{nat_tests}
use Rattle.std.proofs.lemmas.List.Concat.{flat_map-append}
use Rattle.std.proofs.lemmas.Bool.{not-true}
use Rattle.flight_auction.specs.Prelude.{Point, Trade, Bid, Withdraw, Update, Taken, Done, size_of, Placed, BidUnit, clock, point_units, units_of, among, common_units, Rules, Flight as FlightRules, Entry, is_closed, last_bid, units_of_last, price, next_price, gone, stand, signed_as, left_points, StandingPoint, points_looked_at, is_sold, sale, flight_trades, owned_by, by_position, placed_bids, standing_of, standing_points}
use Rattle.auction_rules.proofs.Idle.{IsIdle, idle_stand, idle_last, either_same}
use Rattle.auction_rules.proofs.Standing.{last_units, Each, each-weaker, each-both, IsPlaced, each-placed, last_is, all_among_right, all_among_self, among-append, among-filter, not_among, new_not_gone, stands_unless_gone, left_whole, left_none}
use Rattle.flight_auction.specs.Book.{reaches, is_points_agent, others_than, sales, unsold}
use Rattle.auction_rules.proofs.LeftPoints.{suc_not_zero, signed_size}
use Rattle.auction_rules.proofs.Lists.{filter_same, all-append, all-filter, all-flat_map, all-map, all_alike, filter-flat_map, flat_map-filter, flat_map_same, flat_map_alike, all-weaker, all_passing}
use Rattle.flight_auction.proofs.Sold.{standing_cut, standing_same, unsold_all}
use Rattle.auction_rules.proofs.Agents.{number_same, numbers_differ, another}
use Rattle.auction_rules.proofs.Order.{made_at, of_others, replaced_order, order_more, ordered_all}

-- a point that has units
abbrev pub IsFull : Point → Type 0
IsFull point = size_of point ≢ 0

owned_full : (agent : ℕ) (points : List Point) → AllByRecursion IsFull points → AllByRecursion (λ s. IsFull s.point) (owned_by agent points)
owned_full agent points full = all-map (λ (s : StandingPoint). IsFull s.point) (λ point. record { agent = agent; point = point }) points full

-- ---- a sale

cut : (le g : Bool) (st lk g' : Bool) → st ≡ not g' → lk ≡ not g → g' ≡ ((lk && le) || g) → st ≡ (lk && not le)
cut true true st lk g' s l k = rw (s, k, l) refl
cut true false st lk g' s l k = rw (s, k, l) refl
cut false true st lk g' s l k = rw (s, k, l) refl
cut false false st lk g' s l k = rw (s, k, l) refl

-- after a sale among units of which those stood that were not yet gone, the unsold points stand
after_sale : (rules : Rules) (past : List Entry) (e : Entry) (looked : List BidUnit) (current : ℕ) → is_closed (e ∷ past) ≡ false →
    gone rules (e ∷ past) ≡ filter (λ u. nat_le current u.price) looked ++ gone rules past →
    ((a : ℕ) → a ≤ 7 → Each (λ u. among u looked ≡ not (among u (gone rules past))) (units_of_last (last_bid a (e ∷ past)))) →
    standing_points rules (e ∷ past) ≡ unsold current (flat_map (standing_of looked) (by_position (placed_bids (e ∷ past)) (suc (length past))))
after_sale rules past e looked current still_open goes stood =
    flat_map_same (standing_of (stand rules (e ∷ past))) (λ (bid : Placed). unsold current (standing_of looked bid)) (by_position (placed_bids (e ∷ past)) (suc (length past)))
    (all-weaker (λ (bid : Placed). Each Left (units_of bid)) _ _ (λ bid h. standing_cut current looked (stand rules (e ∷ past)) bid h)
    (ordered_all Left (λ a. last_bid a (e ∷ past)) (suc (length past)) (λ a le. each-both Stands Looked Left (units_of_last (last_bid a (e ∷ past))) one (stands_unless_gone rules (e ∷ past) a le still_open) (stood a le))))
    ∙ sym (unsold_all current looked (by_position (placed_bids (e ∷ past)) (suc (length past))))
  where
    Stands : BidUnit → Type 0
    Stands u = among u (stand rules (e ∷ past)) ≡ not (among u (gone rules (e ∷ past)))

    Looked : BidUnit → Type 0
    Looked u = among u looked ≡ not (among u (gone rules past))

    Left : BidUnit → Type 0
    Left u = among u (stand rules (e ∷ past)) ≡ (among u looked && not (nat_le current u.price))

    one : (u : BidUnit) → Stands u → Looked u → Left u
    one u s l =
        cut (nat_le current u.price) (among u (gone rules past)) (among u (stand rules (e ∷ past))) (among u looked) (among u (gone rules (e ∷ past))) s l
        (ap (among u) goes ∙ among-append u (filter (λ u. nat_le current u.price) looked) (gone rules past) ∙ ap (λ (b : Bool). b || among u (gone rules past)) (among-filter u (λ (v : BidUnit). nat_le current v.price) looked))

-- ---- an update

abbrev pub update_entry : ℕ → ℕ → List Trade → Entry
update_entry tick draw trades = record { caller = clock; call = Update tick draw; reply = Done; trades = trades }

-- the points that an update looks at are those that stand
pub update_left : (first : ℕ) (bound : ℤ) (past : List Entry) (tick draw : ℕ) (trades : List Trade) → is_closed past ≡ false →
    standing_points (FlightRules first bound) (update_entry tick draw trades ∷ past)
    ≡ unsold (next_price (price first bound past) bound tick draw) (standing_points (FlightRules first bound) past)
update_left first bound past tick draw trades still_open =
    after_sale rules past e (stand rules past) current still_open refl stood
    ∙ ap (λ (bids : List Placed). unsold current (flat_map (standing_of (stand rules past)) bids)) (order_more past)
  where
    rules : Rules
    rules = FlightRules first bound

    current : ℕ
    current = next_price (price first bound past) bound tick draw

    e : Entry
    e = update_entry tick draw trades

    stood : (a : ℕ) → a ≤ 7 → Each (λ u. among u (stand rules past) ≡ not (among u (gone rules past))) (units_of_last (last_bid a (e ∷ past)))
    stood a le =
        subst (λ (bid : Option Placed). Each (λ u. among u (stand rules past) ≡ not (among u (gone rules past))) (units_of_last bid))
        (sym (either_same (clock == a) (last_bid a past))) (stands_unless_gone rules past a le still_open)

-- ---- what is sold

-- what stands of a bid has units
left_full : (units : List BidUnit) (agent position from : ℕ) (points : List Point) → AllByRecursion IsFull (left_points units agent position from points)
left_full units agent position from [] = tt
left_full units agent position from (point ∷ points) = by_count (common_units (point_units agent position from point) units) (left_full units agent position (from + size_of point) points)
  where
    rest : List Point
    rest = left_points units agent position (from + size_of point) points

    by_count : (n : ℕ) → AllByRecursion IsFull rest → AllByRecursion IsFull (cond (n == 0) rest (record { units = signed_as point.units n; price = point.price } ∷ rest))
    by_count zero full = full
    by_count (suc n) full = rw (suc_not_zero n) ((λ none. let size = signed_size point.units (suc n) in omega (arith, size, none)), full)

standing_full : (rules : Rules) (past : List Entry) → AllByRecursion (λ s. IsFull s.point) (standing_points rules past)
standing_full rules past =
    all-flat_map (λ (s : StandingPoint). IsFull s.point) (standing_of (stand rules past)) (by_position (placed_bids past) (length past))
    (all_alike _ (by_position (placed_bids past) (length past)) (λ bid. owned_full bid.agent _ (left_full (stand rules past) bid.agent bid.position 0 bid.points)))

-- of points that have units those are sold that the price reaches
sold_reached : (good current : ℕ) (points : List StandingPoint) → AllByRecursion (λ s. IsFull s.point) points → flight_trades good current points ≡ sales good current points
sold_reached good current points full =
    ap (map (sale good current)) (filter_same (is_sold current) (reaches current) points (all-weaker (λ (s : StandingPoint). IsFull s.point) _ points (λ s some. one s (tested (size_of s.point) some)) full))
  where
    tested : (n : ℕ) → n ≢ 0 → nat_lt 0 n ≡ true
    tested n some = grind (arith, nat_tests)

    one : (s : StandingPoint) → nat_lt 0 (size_of s.point) ≡ true → is_sold current s ≡ reaches current s
    one s some = rw some refl

pub update_trades : (good current : ℕ) (rules : Rules) (past : List Entry) → flight_trades good current (standing_points rules past) ≡ sales good current (standing_points rules past)
update_trades good current rules past = sold_reached good current (standing_points rules past) (standing_full rules past)

-- ---- a bid

-- the points of the others
others_flat : (units : List BidUnit) (agent : ℕ) (bids : List Placed) → flat_map (standing_of units) (filter (of_others agent) bids) ≡ others_than agent (flat_map (standing_of units) bids)
others_flat units agent bids =
    flat_map-filter (standing_of units) (of_others agent) bids
    ∙ flat_map_alike _ (λ (bid : Placed). others_than agent (standing_of units bid)) bids (λ bid. one (bid.agent == agent) bid.agent refl (left_points units bid.agent bid.position 0 bid.points))
    ∙ sym (filter-flat_map (λ (s : StandingPoint). not (is_points_agent agent s)) (standing_of units) bids)
  where
    one : (b : Bool) (owner : ℕ) → (owner == agent) ≡ b → (points : List Point) → cond (not b) (owned_by owner points) [] ≡ others_than agent (owned_by owner points)
    one b owner h [] = either_same (not b) []
    one b owner h (point ∷ points) = by_test b h (one b owner h points)
      where
        by_test : (c : Bool) → (owner == agent) ≡ c → cond (not c) (owned_by owner points) [] ≡ others_than agent (owned_by owner points) →
            cond (not c) (owned_by owner (point ∷ points)) [] ≡ others_than agent (owned_by owner (point ∷ points))
        by_test true k ih = rw k ih
        by_test false k ih = rw k (ap (λ (ps : List StandingPoint). record { agent = owner; point = point } ∷ ps) ih)

-- the units that a bid looks at
abbrev pub looked : List BidUnit → Placed → List BidUnit
looked standing new = filter (λ u. not (u.agent == new.agent)) standing ++ units_of new

differ_by_test : (m n : ℕ) → (m == n) ≡ false → m ≡ n → ⊥
differ_by_test m n h same = grind (arith, nat_tests)

-- a unit of another agent is looked at if it stands
others_looked : (standing : List BidUnit) (new : Placed) (u : BidUnit) → (u.agent == new.agent) ≡ false → among u (looked standing new) ≡ among u standing
others_looked standing new u differs =
    among-append u (filter (λ v. not (v.agent == new.agent)) standing) (units_of new)
    ∙ rw (among-filter u (λ v. not (v.agent == new.agent)) standing, not_new, differs) (kept (among u standing))
  where
    not_new : among u (units_of new) ≡ false
    not_new = not_among (IsPlaced new.agent new.position) u (units_of new) (λ v placed same. differ_by_test u.agent new.agent differs (ap (λ (w : BidUnit). w.agent) same ∙ placed.0)) (each-placed new.agent new.position 0 new.points)

    kept : (b : Bool) → ((b && true) || false) ≡ b
    kept true = refl
    kept false = refl

abbrev pub bid_entry : ℕ → List Point → ℕ → List Trade → Entry
bid_entry agent points bought trades = record { caller = agent; call = Bid points; reply = Taken bought 0; trades = trades }

-- the others' points are as they were, and the new bid's are those of its units that are looked at
pub others_stand : (rules : Rules) (past : List Entry) (agent : ℕ) (points : List Point) →
    let new : Placed = record { agent = agent; position = length past; points = points } in
    flat_map (standing_of (looked (stand rules past) new)) (filter (of_others agent) (by_position (placed_bids past) (length past)) ++ new ∷ [])
    ≡ others_than agent (standing_points rules past) ++ standing_of (looked (stand rules past) new) new
others_stand rules past agent points =
    flat_map-append (standing_of units) (filter (of_others agent) order) (new ∷ [])
    ∙ rw others (ap (λ (more : List StandingPoint). others_than agent (standing_points rules past) ++ more) (append-nil (standing_of units new)))
  where
    new : Placed
    new = record { agent = agent; position = length past; points = points }

    units : List BidUnit
    units = looked (stand rules past) new

    order : List Placed
    order = by_position (placed_bids past) (length past)

    alike : (bid : Placed) → of_others agent bid ≡ true → standing_of units bid ≡ standing_of (stand rules past) bid
    alike bid other =
        standing_same (stand rules past) units bid
        (each-weaker (IsPlaced bid.agent bid.position) _ (units_of bid) (λ u placed. others_looked (stand rules past) new u (ap (λ (n : ℕ). n == agent) placed.0 ∙ not-true (bid.agent == agent) other))
        (each-placed bid.agent bid.position 0 bid.points))

    others : flat_map (standing_of units) (filter (of_others agent) order) ≡ others_than agent (standing_points rules past)
    others =
        flat_map_same (standing_of units) (standing_of (stand rules past)) (filter (of_others agent) order) (all_passing _ (of_others agent) order alike)
        ∙ others_flat (stand rules past) agent order

-- a new bid whose points have units is whole among the units that it looks at
new_looked : (rules : Rules) (past : List Entry) (agent : ℕ) (points : List Point) → AllByRecursion IsFull points →
    let new : Placed = record { agent = agent; position = length past; points = points } in
    flat_map (standing_of (looked (stand rules past) new)) (filter (of_others agent) (by_position (placed_bids past) (length past)) ++ new ∷ [])
    ≡ others_than agent (standing_points rules past) ++ owned_by agent points
new_looked rules past agent points full =
    others_stand rules past agent points ∙ ap (λ (ps : List Point). others_than agent (standing_points rules past) ++ owned_by agent ps) whole
  where
    new : Placed
    new = record { agent = agent; position = length past; points = points }

    whole : left_points (looked (stand rules past) new) agent (length past) 0 points ≡ points
    whole =
        left_whole (looked (stand rules past) new) agent (length past) 0 points
        (all_among_right (units_of new) (filter (λ u. not (u.agent == agent)) (stand rules past)) (units_of new) (all_among_self (units_of new))) full

-- each unit that is left to a last bid, or is new, is looked at
bid_looked : (rules : Rules) (past : List Entry) (agent : ℕ) (points : List Point) → is_closed past ≡ false → (a : ℕ) → a ≤ 7 →
    let new : Placed = record { agent = agent; position = length past; points = points } in
    Each (λ u. among u (looked (stand rules past) new) ≡ not (among u (gone rules past))) (units_of_last (if agent == a then Some new else last_bid a past))
bid_looked rules past agent points still_open a le = by_test (agent == a) refl
  where
    new : Placed
    new = record { agent = agent; position = length past; points = points }

    Looked : BidUnit → Type 0
    Looked u = among u (looked (stand rules past) new) ≡ not (among u (gone rules past))

    mine : Each Looked (units_of new)
    mine =
        each-both (λ u. among u (looked (stand rules past) new) ≡ true) (λ u. among u (gone rules past) ≡ false) Looked (units_of new) (λ u is not_gone. is ∙ rw not_gone refl)
        (all_among_right (units_of new) (filter (λ u. not (u.agent == agent)) (stand rules past)) (units_of new) (all_among_self (units_of new)))
        (new_not_gone rules past agent points)

    theirs : (agent == a) ≡ false → Each Looked (units_of_last (last_bid a past))
    theirs differs =
        each-both (λ u. u.agent ≡ a) (λ u. among u (stand rules past) ≡ not (among u (gone rules past))) Looked (units_of_last (last_bid a past))
        (λ u own stands. others_looked (stand rules past) new u (another agent a u.agent own differs) ∙ stands)
        (last_units (λ u. u.agent ≡ a) a (length past) (last_bid a past) (last_is a past) (λ u own lt. own)) (stands_unless_gone rules past a le still_open)

    by_test : (b : Bool) → (agent == a) ≡ b → Each Looked (units_of_last (cond b (Some new) (last_bid a past)))
    by_test true same = mine
    by_test false differs = theirs differs

new_below : (agent : ℕ) (points : List Point) (n position : ℕ) → position < n → filter (made_at position) (record { agent = agent; position = n; points = points } ∷ []) ≡ []
new_below agent points n position lt = rw (numbers_differ n position (λ same. omega arith)) refl

new_here : (agent : ℕ) (points : List Point) (n : ℕ) →
    filter (made_at n) (record { agent = agent; position = n; points = points } ∷ []) ≡ record { agent = agent; position = n; points = points } ∷ []
new_here agent points n = rw (number_same n) refl

-- after a bid those of the others' points and of the new ones stand that are not sold
pub bid_left : (first : ℕ) (bound : ℤ) (past : List Entry) (agent : ℕ) (points : List Point) (bought : ℕ) (trades : List Trade) → agent ≤ 7 → is_closed past ≡ false →
    AllByRecursion IsFull points →
    standing_points (FlightRules first bound) (bid_entry agent points bought trades ∷ past)
    ≡ unsold (price first bound past) (others_than agent (standing_points (FlightRules first bound) past) ++ owned_by agent points)
bid_left first bound past agent points bought trades le still_open full =
    after_sale (FlightRules first bound) past (bid_entry agent points bought trades) (looked (stand (FlightRules first bound) past) new) (price first bound past) still_open refl
    (bid_looked (FlightRules first bound) past agent points still_open)
    ∙ ap (λ (bids : List Placed). unsold (price first bound past) (flat_map (standing_of (looked (stand (FlightRules first bound) past) new)) bids))
    (replaced_order agent (Some new) past le (new_below agent points (length past)) (new_here agent points (length past)))
    ∙ ap (unsold (price first bound past)) (new_looked (FlightRules first bound) past agent points full)
  where
    new : Placed
    new = record { agent = agent; position = length past; points = points }

pub bid_trades : (good current : ℕ) (rules : Rules) (past : List Entry) (agent : ℕ) (points : List Point) → AllByRecursion IsFull points →
    flight_trades good current (points_looked_at (standing_points rules past) agent (Bid points)) ≡ sales good current (others_than agent (standing_points rules past) ++ owned_by agent points)
bid_trades good current rules past agent points full =
    sold_reached good current (others_than agent (standing_points rules past) ++ owned_by agent points)
    (all-append (λ (s : StandingPoint). IsFull s.point) (others_than agent (standing_points rules past)) (owned_by agent points)
    (all-filter (λ (s : StandingPoint). IsFull s.point) (λ s. not (is_points_agent agent s)) (standing_points rules past) (standing_full rules past)) (owned_full agent points full))

-- ---- a withdrawal

abbrev pub withdraw_entry : ℕ → Entry
withdraw_entry agent = record { caller = agent; call = Withdraw; reply = Done; trades = [] }

pub withdraw_left : (first : ℕ) (bound : ℤ) (past : List Entry) (agent : ℕ) → agent ≤ 7 → is_closed past ≡ false →
    standing_points (FlightRules first bound) (withdraw_entry agent ∷ past) ≡ others_than agent (standing_points (FlightRules first bound) past)
withdraw_left first bound past agent le still_open =
    flat_map_same (standing_of (stand rules (e ∷ past))) (standing_of (stand rules past)) (by_position (placed_bids (e ∷ past)) (suc (length past)))
    (all-weaker (λ (bid : Placed). Each Same (units_of bid)) _ _ (λ bid h. standing_same (stand rules past) (stand rules (e ∷ past)) bid h)
    (ordered_all Same (λ a. last_bid a (e ∷ past)) (suc (length past)) same))
    ∙ ap (flat_map (standing_of (stand rules past)))
    (replaced_order agent None past le (λ position lt. refl) refl ∙ append-nil (filter (of_others agent) (by_position (placed_bids past) (length past))))
    ∙ others_flat (stand rules past) agent (by_position (placed_bids past) (length past))
  where
    rules : Rules
    rules = FlightRules first bound

    e : Entry
    e = withdraw_entry agent

    Same : BidUnit → Type 0
    Same u = among u (stand rules (e ∷ past)) ≡ among u (stand rules past)

    same : (a : ℕ) → a ≤ 7 → Each Same (units_of_last (last_bid a (e ∷ past)))
    same a le_a = by_test (agent == a) refl (stands_unless_gone rules (e ∷ past) a le_a still_open)
      where
        by_test : (b : Bool) → (agent == a) ≡ b → Each (λ u. among u (stand rules (e ∷ past)) ≡ not (among u (gone rules past))) (units_of_last (last_bid a (e ∷ past))) →
            Each Same (units_of_last (cond b None (last_bid a past)))
        by_test true is stands = tt
        by_test false differs stands =
            each-both (λ u. among u (stand rules (e ∷ past)) ≡ not (among u (gone rules past))) (λ u. among u (stand rules past) ≡ not (among u (gone rules past))) Same (units_of_last (last_bid a past))
            (λ u now was. now ∙ sym was)
            (subst (λ (b : Bool). Each (λ u. among u (stand rules (e ∷ past)) ≡ not (among u (gone rules past))) (units_of_last (cond b None (last_bid a past)))) differs stands)
            (stands_unless_gone rules past a le_a still_open)

-- ---- a closing

-- nothing stands in a closed flight
pub closed_left : (rules : Rules) (past : List Entry) → is_closed past ≡ true → standing_points rules past ≡ []
closed_left rules past closed = ap (λ (units : List BidUnit). flat_map (standing_of units) (by_position (placed_bids past) (length past))) nothing ∙ none (by_position (placed_bids past) (length past))
  where
    nothing : stand rules past ≡ []
    nothing = rw closed refl

    none : (bids : List Placed) → flat_map (standing_of []) bids ≡ []
    none [] = refl
    none (bid ∷ bids) = rw (left_none bid.agent bid.position 0 bid.points, none bids) refl

-- ---- an entry that is refused or of `Own`

pub idle_left : (rules : Rules) (past : List Entry) (e : Entry) → IsIdle e → standing_points rules (e ∷ past) ≡ standing_points rules past
idle_left rules past e idle =
    ap (λ (units : List BidUnit). flat_map (standing_of units) (by_position (placed_bids (e ∷ past)) (suc (length past)))) (idle_stand past e idle rules)
    ∙ ap (λ (bids : List Placed). flat_map (standing_of (stand rules past)) (by_position bids (suc (length past)))) placed
    ∙ ap (flat_map (standing_of (stand rules past))) (order_more past)
  where
    placed : placed_bids (e ∷ past) ≡ placed_bids past
    placed = rw (idle_last past e idle 0, idle_last past e idle 1, idle_last past e idle 2, idle_last past e idle 3, idle_last past e idle 4, idle_last past e idle 5, idle_last past e idle 6, idle_last past e idle 7) refl
