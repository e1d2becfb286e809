-- The sales of the points whose units are gone are those of the standing points at or above the price.
use Rattle.std.proofs.Common.{◌≡◌, ℕ, zero, suc, ◌+◌, ◌≤◌, Bool, true, false, cond, List, [], ◌∷◌, ◌++◌, length, map, refl, sym, ap, ◌∙◌, subst, arith, not, ◌&&◌, ◌||◌, ◌==◌, filter, flat_map, nat_le, nat_lt, ℤ, if◌then◌else◌}
use Rattle.std.specs.List.{list_any}
use Rattle.std.proofs.lemmas.Bool.Decides.{nat_tests}
use Rattle.std.proofs.lemmas.Bool.{or_left, or_right, and_right}
use Rattle.std.proofs.lemmas.List.Sums.{sum_by-cons}
use Rattle.std.proofs.lemmas.List.Elements.{filter-append}
use Rattle.std.proofs.lemmas.List.Concat.{flat_map-append}
use Rattle.auction_rules.specs.{Point, Trade, size_of, buys_of, Call, agents, point_units, units_from, units_of, among, common_units, Entry, stand, signed_as, left_points, price, price_after, trades_by}
use Rattle.auction_rules.specs.BookStanding.{placed_bids, by_position, owned_by, standing_of, sale, standing_points, points_looked_at, is_sold}
use Rattle.auction_rules.specs.History.{bids_found, current_bids}
use Rattle.auction_rules.specs.FlightSales.{flight_sales, point_sale}
use Rattle.auction_rules.specs.BidPoints.{points_among}
use Rattle.tac_base.specs.declared.calls.Call.TheVariants.{Bid, Withdraw, Own as OwnCall, Update, Publish, Close}
use Rattle.auction_rules.specs.declared.units.Placed.{Placed}
use Rattle.auction_rules.specs.declared.units.BidUnit.{BidUnit}
use Rattle.auction_rules.specs.declared.units.StandingPoint.{StandingPoint}
use Rattle.auction_rules.specs.declared.rules.Rules.{Rules}
use Rattle.auction_rules.specs.declared.rules.Rules.TheVariants.{Flight as FlightRules}
use Rattle.auction_rules.specs.BookStanding.{is_sale}
use Rattle.auction_rules.specs.Standing.{replaced_units, units_traded}
use Rattle.auction_rules.proofs.Agents.{number_same}
use Rattle.auction_rules.proofs.Lists.{filter-flat_map, map-flat_map, flat_map-filter, flat_map_alike}
use Rattle.auction_rules.proofs.Blocks.{length-point_units}
use Rattle.auction_rules.proofs.LeftPoints.{signed_size, suc_not_zero}
use Rattle.auction_rules.proofs.Standing.{Each, each-front, each-back, each-weaker, each-block, bid_owned, number_is, among-append, among-filter, not_among, AllAmong, all_among_self, count_all, signed_whole, left_none}
use Rattle.auction_rules.proofs.AgentUnits.{units_joined}
use Rattle.auction_rules.proofs.SameStanding.{AllCheap, all_cheap, none_traded, standing_same}

-- ---- the points of a bid whose units are gone

-- the gone units are the standing ones at or above the price
abbrev AreGone : ℕ → List BidUnit → List BidUnit → List BidUnit → Type 0
AreGone current gone standing units = Each (λ u. among u gone ≡ (among u standing && nat_le current u.price)) units

count_same : (b : Bool) (gone standing us : List BidUnit) → Each (λ u. among u gone ≡ (among u standing && b)) us → common_units us gone ≡ cond b (common_units us standing) 0
count_same true gone standing [] h = refl
count_same false gone standing [] h = refl
count_same b gone standing (u ∷ us) h =
    omega (arith, one b (among u gone) (among u standing) h.0, count_same b gone standing us h.1, sum_by-cons (λ (v : BidUnit). cond (among v gone) 1 0) u us, split b)
  where
    one : (b g s : Bool) → g ≡ (s && b) → cond {A = ℕ} g 1 0 ≡ cond b (cond s 1 0) 0
    one true true true h = refl
    one true true false h = absurd cc
    one true false true h = absurd cc
    one true false false h = refl
    one false true true h = absurd cc
    one false true false h = absurd cc
    one false false s h = refl

    split : (b : Bool) → cond b (common_units (u ∷ us) standing) 0 ≡ cond b (cond (among u standing) 1 0) 0 + cond b (common_units us standing) 0
    split true = sum_by-cons (λ (v : BidUnit). cond (among v standing) 1 0) u us
    split false = refl

some_units : (n : ℕ) → nat_lt 0 (suc n) ≡ true
some_units n = grind (arith, nat_tests)

-- a whole point is sold or not
pub points_sold : (current : ℕ) (gone standing : List BidUnit) (agent position from : ℕ) (points : List Point) → AreGone current gone standing (units_from agent position from points) →
    owned_by agent (left_points gone agent position from points) ≡ filter (is_sold current) (owned_by agent (left_points standing agent position from points))
points_sold current gone standing agent position from [] h = refl
points_sold current gone standing agent position from (point ∷ points) h =
    by_price (nat_le current point.price) refl counted (common_units (point_units agent position from point) standing) refl
    (points_sold current gone standing agent position (from + size_of point) points (each-back (λ u. among u gone ≡ (among u standing && nat_le current u.price)) (point_units agent position from point) (units_from agent position (from + size_of point) points) h))
  where
    rest : List BidUnit → List Point
    rest units = left_points units agent position (from + size_of point) points

    one : ℕ → Point
    one count = record { units = signed_as point.units count; price = point.price }

    priced : Each (λ u. u.price ≡ point.price) (point_units agent position from point)
    priced = each-block (λ u. u.price ≡ point.price) (record { agent = agent; buys = buys_of point.units; price = point.price; position = position; index = from }) (size_of point) (λ i. refl)

    joined : (us : List BidUnit) → AreGone current gone standing us → Each (λ u. u.price ≡ point.price) us → Each (λ u. among u gone ≡ (among u standing && nat_le current point.price)) us
    joined [] k l = tt
    joined (u ∷ us) k l = (k.0 ∙ ap (λ (n : ℕ). among u standing && nat_le current n) l.0, joined us k.1 l.1)

    counted : common_units (point_units agent position from point) gone ≡ cond (nat_le current point.price) (common_units (point_units agent position from point) standing) 0
    counted =
        count_same (nat_le current point.price) gone standing (point_units agent position from point)
        (joined (point_units agent position from point) (each-front (λ u. among u gone ≡ (among u standing && nat_le current u.price)) (point_units agent position from point) (units_from agent position (from + size_of point) points) h) priced)

    sold_one : (count : ℕ) (b : Bool) → nat_le current point.price ≡ b → is_sold current (record { agent = agent; point = one (suc count) }) ≡ b
    sold_one count b h = rw (signed_size point.units (suc count), some_units count, h) refl

    Goal : ℕ → ℕ → Type 0
    Goal g s =
        owned_by agent (if g == 0 then rest gone else one g ∷ rest gone) ≡ filter (is_sold current) (owned_by agent (if s == 0 then rest standing else one s ∷ rest standing))

    by_price : (b : Bool) → nat_le current point.price ≡ b →
        common_units (point_units agent position from point) gone ≡ cond b (common_units (point_units agent position from point) standing) 0 →
        (s : ℕ) → common_units (point_units agent position from point) standing ≡ s →
        owned_by agent (rest gone) ≡ filter (is_sold current) (owned_by agent (rest standing)) →
        Goal (common_units (point_units agent position from point) gone) (common_units (point_units agent position from point) standing)
    by_price true dear same zero is ih = rw (same, is) ih
    by_price true dear same (suc s) is ih =
        rw (same, is, suc_not_zero s, sold_one s true dear) (ap (λ (l : List StandingPoint). (record { agent = agent; point = one (suc s) }) ∷ l) ih)
    by_price false cheap same zero is ih = rw (same, is) ih
    by_price false cheap same (suc s) is ih = rw (same, is, suc_not_zero s, sold_one s false cheap) ih

-- ---- a new bid

-- of a bid whose units all stand, the points with units stand
points_whole : (current : ℕ) (standing : List BidUnit) (agent position from : ℕ) (points : List Point) → AllAmong standing (units_from agent position from points) →
    filter (is_sold current) (owned_by agent (left_points standing agent position from points)) ≡ filter (is_sold current) (owned_by agent points)
points_whole current standing agent position from [] h = refl
points_whole current standing agent position from (point ∷ points) h =
    by_size (size_of point) refl counted
    (points_whole current standing agent position (from + size_of point) points (each-back (λ (u : BidUnit). among u standing ≡ true) (point_units agent position from point) (units_from agent position (from + size_of point) points) h))
  where
    rest : List Point
    rest = left_points standing agent position (from + size_of point) points

    one : ℕ → Point
    one count = record { units = signed_as point.units count; price = point.price }

    counted : common_units (point_units agent position from point) standing ≡ size_of point
    counted =
        count_all standing (point_units agent position from point)
        (each-front (λ (u : BidUnit). among u standing ≡ true) (point_units agent position from point) (units_from agent position (from + size_of point) points) h)
        ∙ length-point_units agent position from point

    Goal : ℕ → Type 0
    Goal count = filter (is_sold current) (owned_by agent (if count == 0 then rest else one count ∷ rest)) ≡ filter (is_sold current) (owned_by agent (point ∷ points))

    whole : one (size_of point) ≡ point
    whole = ap (λ (z : ℤ). record { units = z; price = point.price }) (signed_whole point.units)

    by_size : (n : ℕ) → size_of point ≡ n → common_units (point_units agent position from point) standing ≡ size_of point →
        filter (is_sold current) (owned_by agent rest) ≡ filter (is_sold current) (owned_by agent points) → Goal (common_units (point_units agent position from point) standing)
    by_size zero is same ih =
        let none : is_sold current (record { agent = agent; point = point }) ≡ false = rw is refl in
        subst Goal (sym (same ∙ is))
        (ih
        ∙ sym (ap (λ (b : Bool). cond b ((record { agent = agent; point = point }) ∷ filter (is_sold current) (owned_by agent points)) (filter (is_sold current) (owned_by agent points))) none))
    by_size (suc n) is same ih =
        let some : (size_of point == 0) ≡ false = ap (λ (k : ℕ). k == 0) is ∙ suc_not_zero n in
        subst Goal (sym same)
        (ap (λ (b : Bool). filter (is_sold current) (owned_by agent (cond b rest (one (size_of point) ∷ rest)))) some
        ∙ ap (λ (p : Point). filter (is_sold current) (owned_by agent (p ∷ rest))) whole
        ∙ by_test (is_sold current (record { agent = agent; point = point })))
      where
        by_test : (b : Bool) →
            cond b (record { agent = agent; point = point } ∷ filter (is_sold current) (owned_by agent rest)) (filter (is_sold current) (owned_by agent rest))
            ≡ cond b (record { agent = agent; point = point } ∷ filter (is_sold current) (owned_by agent points)) (filter (is_sold current) (owned_by agent points))
        by_test true = ap (λ (l : List StandingPoint). (record { agent = agent; point = point }) ∷ l) ih
        by_test false = ih

-- ---- units among those that a new bid leaves in place

-- a unit of another agent is found if it stands
among_others : (standing new : List BidUnit) (caller : ℕ) (u : BidUnit) (who : List ℕ) → (u.agent == caller) ≡ false → among u new ≡ false →
    among u (flat_map (λ a. if caller == a then new else filter (λ v. v.agent == a) standing) who) ≡ among u (flat_map (λ a. filter (λ v. v.agent == a) standing) who)
among_others standing new caller u [] other none = refl
among_others standing new caller u (a ∷ who) other none =
    among-append u (if caller == a then new else filter (λ v. v.agent == a) standing) _
    ∙ ap (λ (b : Bool). b || among u (flat_map (λ k. if caller == k then new else filter (λ v. v.agent == k) standing) who)) (by_test (caller == a) refl)
    ∙ ap (λ (b : Bool). among u (filter (λ v. v.agent == a) standing) || b) (among_others standing new caller u who other none)
    ∙ sym (among-append u (filter (λ v. v.agent == a) standing) _)
  where
    by_test : (b : Bool) → (caller == a) ≡ b → among u (cond b new (filter (λ v. v.agent == a) standing)) ≡ among u (filter (λ v. v.agent == a) standing)
    by_test true same =
        let differs : (u.agent == a) ≡ false = ap (λ (n : ℕ). u.agent == n) (sym (number_is caller a same)) ∙ other in
        none ∙ sym (among-filter u (λ v. v.agent == a) standing ∙ ap (λ (b : Bool). among u standing && b) differs ∙ and_right (among u standing) false refl)
    by_test false differs = refl

-- the new units are found
among_new : (standing new : List BidUnit) (caller : ℕ) (u : BidUnit) (who : List ℕ) → list_any (λ a. caller == a) who ≡ true → among u new ≡ true →
    among u (flat_map (λ a. if caller == a then new else filter (λ v. v.agent == a) standing) who) ≡ true
among_new standing new caller u [] is own = absurd cc
among_new standing new caller u (a ∷ who) is own =
    among-append u (if caller == a then new else filter (λ v. v.agent == a) standing) _
    ∙ by_test (caller == a) is (λ later. among_new standing new caller u who later own)
  where
    by_test : (b : Bool) → (b || list_any (λ k. caller == k) who) ≡ true →
        (list_any (λ k. caller == k) who ≡ true → among u (flat_map (λ k. if caller == k then new else filter (λ v. v.agent == k) standing) who) ≡ true) →
        (among u (cond b new (filter (λ v. v.agent == a) standing)) || among u (flat_map (λ k. if caller == k then new else filter (λ v. v.agent == k) standing) who)) ≡ true
    by_test true found more = or_left (among u new) _ own
    by_test false found more = or_right (among u (filter (λ v. v.agent == a) standing)) _ (more found)

an_agent : (caller : ℕ) → caller ≤ 7 → list_any (λ a. caller == a) agents ≡ true
an_agent zero le = refl
an_agent (suc zero) le = refl
an_agent (suc (suc zero)) le = refl
an_agent (suc (suc (suc zero))) le = refl
an_agent (suc (suc (suc (suc zero)))) le = refl
an_agent (suc (suc (suc (suc (suc zero))))) le = refl
an_agent (suc (suc (suc (suc (suc (suc zero)))))) le = refl
an_agent (suc (suc (suc (suc (suc (suc (suc zero))))))) le = refl
an_agent (suc (suc (suc (suc (suc (suc (suc (suc n)))))))) le = absurd (omega arith)

-- ---- the points of one agent

owned_filter : (caller agent : ℕ) (b : Bool) (points : List Point) → (agent == caller) ≡ b → filter (λ s. not (s.agent == caller)) (owned_by agent points) ≡ cond b [] (owned_by agent points)
owned_filter caller agent true [] h = refl
owned_filter caller agent false [] h = refl
owned_filter caller agent true (point ∷ points) h = rw h (owned_filter caller agent true points h)
owned_filter caller agent false (point ∷ points) h = rw h (ap (λ (l : List StandingPoint). (record { agent = agent; point = point }) ∷ l) (owned_filter caller agent false points h))

nothing_owned : (bids : List Placed) → flat_map (standing_of []) bids ≡ []
nothing_owned [] = refl
nothing_owned (bid ∷ bids) = rw (left_none bid.agent bid.position 0 bid.points) (nothing_owned bids)

-- ---- the trades

-- the sales are those of the points of agents
sales_split : (good current : ℕ) (traded : List BidUnit) (bids : List Placed) → flight_sales good current traded bids ≡ map (sale good current) (flat_map (standing_of traded) bids)
sales_split good current traded bids =
    flat_map_alike _ (λ bid. map (sale good current) (standing_of traded bid)) bids (λ bid. sym (of_points bid.agent (points_among traded bid)))
    ∙ sym (map-flat_map (sale good current) (standing_of traded) bids)
  where
    of_points : (agent : ℕ) (points : List Point) → map (sale good current) (owned_by agent points) ≡ map (point_sale good current agent) points
    of_points agent [] = refl
    of_points agent (point ∷ points) = ap (λ (trades : List Trade). point_sale good current agent point ∷ trades) (of_points agent points)

module _ (first : ℕ) (bound : ℤ) (good : ℕ) (past : List Entry) (caller : ℕ) where
  abbrev rules : Rules
  rules = FlightRules first bound

  abbrev standing : List BidUnit
  standing = stand rules past

  abbrev bids : List Placed
  bids = by_position (placed_bids past) (length past)

  abbrev now : Call → ℕ
  now call = price_after bound (price first bound past) call

  abbrev at : ℕ → BidUnit → Bool
  at current u = nat_le current u.price

  -- no bid is new
  kept : (current : ℕ) → flat_map (standing_of (filter (at current) standing)) bids ≡ filter (is_sold current) (standing_points rules past)
  kept current =
      flat_map_alike _ (λ bid. filter (is_sold current) (standing_of standing bid)) bids
      (λ bid. points_sold current (filter (at current) standing) standing bid.agent bid.position 0 bid.points (each (units_of bid)))
      ∙ sym (filter-flat_map (is_sold current) (standing_of standing) bids)
    where
      each : (us : List BidUnit) → AreGone current (filter (at current) standing) standing us
      each [] = tt
      each (u ∷ us) = (among-filter u (at current) standing, each us)

  module _ (points : List Point) (le : caller ≤ 7) where
    abbrev new : Placed
    new = record { agent = caller; position = length past; points = points }

    abbrev found : List BidUnit
    found = replaced_units standing caller (units_of new)

    others : (current : ℕ) (bid : Placed) (b : Bool) → (bid.agent == caller) ≡ b →
        cond (not b) (standing_of (filter (at current) found) bid) [] ≡ filter (is_sold current) (cond b [] (standing_of standing bid))
    others current bid true same = refl
    others current bid false other = points_sold current (filter (at current) found) standing bid.agent bid.position 0 bid.points (each-weaker (λ u. u.agent ≡ bid.agent) _ (units_of bid) one (bid_owned bid))
      where
        one : (u : BidUnit) → u.agent ≡ bid.agent → among u (filter (at current) found) ≡ (among u standing && nat_le current u.price)
        one u own =
            let differs : (u.agent == caller) ≡ false = ap (λ (n : ℕ). n == caller) own ∙ other in
            let absent : among u (units_of new) ≡ false =
            not_among (λ v. v.agent ≡ caller) u (units_of new)
            (λ v is same. let t : (u.agent == caller) ≡ true = ap (λ (w : BidUnit). w.agent == caller) same ∙ ap (λ (n : ℕ). n == caller) is ∙ number_same caller in absurd cc) (bid_owned new) in
            among-filter u (at current) found
            ∙ ap (λ (b : Bool). b && at current u)
            (among_others standing (units_of new) caller u agents differs absent ∙ ap (among u) (units_joined rules past))

    own : (current : ℕ) → standing_of (filter (at current) found) new ≡ filter (is_sold current) (owned_by caller points)
    own current =
        points_sold current (filter (at current) found) (units_of new) caller (length past) 0 points
        (each-weaker (λ (u : BidUnit). among u (units_of new) ≡ true) _ (units_of new) one (all_among_self (units_of new)))
        ∙ points_whole current (units_of new) caller (length past) 0 points (all_among_self (units_of new))
      where
        one : (u : BidUnit) → among u (units_of new) ≡ true → among u (filter (at current) found) ≡ (among u (units_of new) && nat_le current u.price)
        one u is =
            among-filter u (at current) found
            ∙ ap (λ (b : Bool). b && at current u) (among_new standing (units_of new) caller u agents (an_agent caller le) is ∙ sym is)

    of_bid : (current : ℕ) →
        flat_map (standing_of (filter (at current) found)) (filter (λ bid. not (bid.agent == caller)) bids ++ new ∷ [])
        ≡ filter (is_sold current) (points_looked_at (standing_points rules past) caller (Bid points))
    of_bid current =
        flat_map-append (standing_of (filter (at current) found)) (filter (λ bid. not (bid.agent == caller)) bids) (new ∷ [])
        ∙ ap (λ (l : List StandingPoint). l ++ flat_map (standing_of (filter (at current) found)) (new ∷ [])) front
        ∙ ap (λ (l : List StandingPoint). filter (is_sold current) (filter (λ s. not (s.agent == caller)) (standing_points rules past)) ++ l) (last (standing_of (filter (at current) found) new) ∙ own current)
        ∙ sym (filter-append (is_sold current) (filter (λ s. not (s.agent == caller)) (standing_points rules past)) (owned_by caller points))
      where
        last : (l : List StandingPoint) → l ++ [] ≡ l
        last [] = refl
        last (s ∷ l) = ap (λ (m : List StandingPoint). s ∷ m) (last l)

        front : flat_map (standing_of (filter (at current) found)) (filter (λ bid. not (bid.agent == caller)) bids) ≡ filter (is_sold current) (filter (λ s. not (s.agent == caller)) (standing_points rules past))
        front =
            flat_map-filter (standing_of (filter (at current) found)) (λ bid. not (bid.agent == caller)) bids
            ∙ flat_map_alike _ (λ bid. filter (is_sold current) (filter (λ s. not (s.agent == caller)) (standing_of standing bid))) bids
            (λ bid. others current bid (bid.agent == caller) refl
            ∙ ap (filter (is_sold current)) (sym (owned_filter caller bid.agent (bid.agent == caller) (left_points standing bid.agent bid.position 0 bid.points) refl)))
            ∙ sym (filter-flat_map (is_sold current) (λ bid. filter (λ s. not (s.agent == caller)) (standing_of standing bid)) bids)
            ∙ ap (filter (is_sold current)) (sym (filter-flat_map (λ s. not (s.agent == caller)) (standing_of standing) bids))

  -- a call that brings no unit at or above the price sells nothing
  idle : (call : Call) (found : List Placed) → is_sale call ≡ false → map (sale good (price first bound past)) (flat_map (standing_of (units_traded rules past standing caller call)) found) ≡ []
  idle call found is =
      ap (λ (units : List BidUnit). map (sale good (price first bound past)) (flat_map (standing_of units) found))
      (none_traded first bound past standing caller call is (subst (AllCheap (price first bound past)) (standing_same rules past) (all_cheap first bound past)))
      ∙ ap (map (sale good (price first bound past))) (nothing_owned found)

  -- the sales of the points of which units are gone are the trades of a flight
  of_call : (call : Call) → ((points : List Point) → call ≡ Bid points → caller ≤ 7) →
      map (sale good (now call)) (flat_map (standing_of (units_traded rules past standing caller call)) (bids_found bids (length past) caller call)) ≡ trades_by rules good past caller call
  of_call (Bid points) agent = ap (map (sale good (price first bound past))) (of_bid points (agent points refl) (price first bound past))
  of_call (Update tick draw) agent = ap (map (sale good (now (Update tick draw)))) (kept (now (Update tick draw)))
  of_call Withdraw agent = idle Withdraw (filter (λ bid. not (bid.agent == caller)) bids) refl
  of_call OwnCall agent = idle OwnCall bids refl
  of_call Publish agent = idle Publish bids refl
  of_call Close agent = idle Close bids refl

  pub sales_same : (call : Call) → ((points : List Point) → call ≡ Bid points → caller ≤ 7) → current_bids past ≡ bids →
      flight_sales good (now call) (units_traded rules past standing caller call) (bids_found (current_bids past) (length past) caller call) ≡ trades_by rules good past caller call
  sales_same call agent ordered =
      ap (λ (bs : List Placed). flight_sales good (now call) (units_traded rules past standing caller call) (bids_found bs (length past) caller call)) ordered
      ∙ sales_split good (now call) (units_traded rules past standing caller call) (bids_found bids (length past) caller call)
      ∙ of_call call agent
