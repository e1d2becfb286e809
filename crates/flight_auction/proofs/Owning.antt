-- What an agent has standing in a flight.
use Rattle.std.proofs.Common.{◌≡◌, ℕ, ◌+◌, ◌≤◌, Bool, true, false, cond, List, [], ◌∷◌, length, map, refl, sym, ap, ◌∙◌, append-nil, Option, Some, None, not, ◌||◌, ◌==◌, filter, if◌then◌else◌, flat_map, option_to_list}
use Rattle.std.specs.List.{list_any}
use Rattle.std.proofs.lemmas.List.Elements.{filter-append}
use Rattle.std.proofs.lemmas.List.Sums.{length-filter}
use Rattle.flight_auction.specs.{Point, size_of, Placed, BidUnit, point_units, units_from, among, without, common_units, Rules, Entry, is_closed, last_bid, units_of_last, gone, stand, signed_as, left_points, left_of, standing_points_of, has_standing, StandingPoint, owned_by, by_position, placed_bids, standing_of, standing_points, is_points_agent, agents_points}
use Rattle.auction_rules.proofs.Standing.{Each, each-front, each-back, stands_unless_gone}
use Rattle.auction_rules.proofs.LeftPoints.{suc_not_zero}
use Rattle.auction_rules.proofs.Lists.{filter_same, filter-flat_map, map-flat_map, flat_map-filter, flat_map_alike, some_of, some-append, any_is_some}
use Rattle.auction_rules.proofs.AgentUnits.{own_units}
use Rattle.auction_rules.proofs.Order.{made_by, own_bid}

-- the points of one bid are all its agent's
pub owned_points : (agent owner : ℕ) (points : List Point) → agents_points agent (owned_by owner points) ≡ (if owner == agent then points else [])
owned_points agent owner points = by_test (owner == agent) refl points
  where
    by_test : (b : Bool) → (owner == agent) ≡ b → (ps : List Point) → agents_points agent (owned_by owner ps) ≡ cond b ps []
    by_test true h [] = refl
    by_test true h (p ∷ ps) = rw (h, by_test true h ps) refl
    by_test false h [] = refl
    by_test false h (p ∷ ps) = rw (h, by_test false h ps) refl

-- the agent's points are what is left of its last bid
pub own_points : (rules : Rules) (past : List Entry) (agent : ℕ) → agent ≤ 7 → agents_points agent (standing_points rules past) ≡ standing_points_of rules past agent
own_points rules past agent le =
    ap (map (λ (s : StandingPoint). s.point)) (filter-flat_map (is_points_agent agent) (standing_of units) order)
    ∙ map-flat_map (λ (s : StandingPoint). s.point) (λ (bid : Placed). filter (is_points_agent agent) (standing_of units bid)) order
    ∙ flat_map_alike _ (λ (bid : Placed). if made_by agent bid then left_of units (Some bid) else []) order (λ bid. owned_points agent bid.agent (left_points units bid.agent bid.position 0 bid.points))
    ∙ sym (flat_map-filter (λ (bid : Placed). left_of units (Some bid)) (made_by agent) order)
    ∙ ap (flat_map (λ (bid : Placed). left_of units (Some bid))) (own_bid agent past le)
    ∙ of_option (last_bid agent past)
  where
    units : List BidUnit
    units = stand rules past

    order : List Placed
    order = by_position (placed_bids past) (length past)

    of_option : (bid : Option Placed) → flat_map (λ b. left_of units (Some b)) (option_to_list bid) ≡ left_of units bid
    of_option None = refl
    of_option (Some bid) = append-nil (left_points units bid.agent bid.position 0 bid.points)

-- ---- whether something stands

some-map : {X Y : Type 0} (f : X → Y) (xs : List X) → some_of (map f xs) ≡ some_of xs
some-map f [] = refl
some-map f (x ∷ xs) = refl

-- points of a bid are left exactly if units of it are
some_left : (standing gone : List BidUnit) (agent position from : ℕ) (points : List Point) → Each (λ u. among u standing ≡ not (among u gone)) (units_from agent position from points) →
    some_of (without (units_from agent position from points) gone) ≡ some_of (left_points standing agent position from points)
some_left standing gone agent position from [] h = refl
some_left standing gone agent position from (point ∷ points) h =
    ap some_of (filter-append (λ u. not (among u gone)) here rest)
    ∙ some-append (without here gone) (without rest gone)
    ∙ rw (sym (filter_same (λ u. among u standing) (λ u. not (among u gone)) here (each-front P here rest h)), some_left standing gone agent position (from + size_of point) points (each-back P here rest h))
    (by_list (filter (λ u. among u standing) here) (common_units here standing) (sym (length-filter (λ u. among u standing) here)))
  where
    P : BidUnit → Type 0
    P u = among u standing ≡ not (among u gone)

    here : List BidUnit
    here = point_units agent position from point

    rest : List BidUnit
    rest = units_from agent position (from + size_of point) points

    more : List Point
    more = left_points standing agent position (from + size_of point) points

    by_list : (kept : List BidUnit) (count : ℕ) → count ≡ length kept → (some_of kept || some_of more) ≡ some_of (cond (count == 0) more (record { units = signed_as point.units count; price = point.price } ∷ more))
    by_list [] count is = rw is refl
    by_list (u ∷ kept) count is = rw (is, suc_not_zero (length kept)) refl

pub has_standing_is : (rules : Rules) (past : List Entry) (agent : ℕ) → agent ≤ 7 → is_closed past ≡ false → has_standing rules past agent ≡ list_any (is_points_agent agent) (standing_points rules past)
has_standing_is rules past agent le still_open =
    any_is_some (λ u. u.agent == agent) (stand rules past)
    ∙ ap some_of (own_units rules past agent le still_open)
    ∙ of_option (last_bid agent past) (stands_unless_gone rules past agent le still_open)
    ∙ ap some_of (sym (own_points rules past agent le))
    ∙ some-map (λ (s : StandingPoint). s.point) (filter (is_points_agent agent) (standing_points rules past))
    ∙ sym (any_is_some (is_points_agent agent) (standing_points rules past))
  where
    of_option : (bid : Option Placed) → Each (λ u. among u (stand rules past) ≡ not (among u (gone rules past))) (units_of_last bid) →
        some_of (without (units_of_last bid) (gone rules past)) ≡ some_of (left_of (stand rules past) bid)
    of_option None h = refl
    of_option (Some bid) h = some_left (stand rules past) (gone rules past) bid.agent bid.position 0 bid.points h
