-- Flights: no agent buys more units at a price or more than units looked at bid so much.
use Rattle.std.proofs.Common.{◌≡◌, ℕ, zero, suc, ◌+◌, ◌≤◌, Bool, true, false, cond, List, [], ◌∷◌, length, refl, sym, ap, ◌∙◌, arith, Option, Some, None, not, ◌&&◌, ◌==◌, nat_lt, nat_le, filter, sum_by, count_by, filter_map, flat_map}
use Rattle.std.specs.List.{AllByRecursion, cons_option}
use Rattle.std.proofs.lemmas.Bool.{and_parts}
use Rattle.std.proofs.lemmas.Bool.Decides.{nat_tests}
use Rattle.std.proofs.lemmas.List.Sums.{sum_by-cons, sum_by-append, sum_by_push, sum_by-le-sum_by}
use Rattle.auction_core.specs.{Point, Trade, Call, size_of, buys_of, Placed, BidUnit, agents, house, point_units, common_units, bought_at, bid_at}
use Rattle.tac_base.specs.declared.calls.Call.TheVariants.{Bid, Withdraw, Own as OwnCall, Update, Publish, Close}
use Rattle.auction_rules.specs.History.{Entry}
use Rattle.auction_rules.specs.BookStanding.{last_bid}
use Rattle.auction_rules.proofs.Ranks.{count-cons, count_le}
use Rattle.auction_rules.proofs.Counts.{count-filter, none_pass}
use Rattle.auction_rules.proofs.Trading.{sum_by-filter-le}
use Rattle.auction_rules.proofs.Standing.{IsBidOf, last_is}
use Rattle.auction_rules.proofs.HotelUnits.{each_in}
use Rattle.flight_auction.proofs.UnitTrades.{bids_looked_at, point_trades, positions_below, unit_trades}
use Rattle.auction_core.proofs.Bought.{sum-filter, sum-flat_map, sum_nothing, counted_once, count_two, is_within, block_found, paid, bought_is}
use Rattle.auction_core.proofs.Buying.{AllBuy}

-- ---- each bid has one position

module _ (f : Placed → ℕ) where
  one_position : (n : ℕ) (bids : List Placed) → sum_by f (filter (λ bid. nat_lt bid.position n) bids) + sum_by f (filter (λ bid. bid.position == n) bids) ≡ sum_by f (filter (λ bid. nat_lt bid.position (suc n)) bids)
  one_position n [] = omega arith
  one_position n (bid ∷ bids) =
      let before = sum-filter f (λ (b : Placed). nat_lt b.position n) bid bids in
      let here = sum-filter f (λ (b : Placed). b.position == n) bid bids in
      let both = sum-filter f (λ (b : Placed). nat_lt b.position (suc n)) bid bids in
      let rest = one_position n bids in
      let first = apart bid.position (f bid) in
      omega (arith, before, here, both, rest, first)
    where
      apart : (p count : ℕ) → cond (nat_lt p n) count 0 + cond (p == n) count 0 ≡ cond (nat_lt p (suc n)) count 0
      apart p count = grind (arith, nat_tests)

  below : (bids : List Placed) (n : ℕ) → sum_by (λ p. sum_by f (filter (λ bid. bid.position == p) bids)) (positions_below n) ≡ sum_by f (filter (λ bid. nat_lt bid.position n) bids)
  below bids zero = sym (none bids)
    where
      none : (some : List Placed) → sum_by f (filter (λ bid. nat_lt bid.position 0) some) ≡ 0
      none [] = refl
      none (bid ∷ some) = let first = sum-filter f (λ (b : Placed). nat_lt b.position 0) bid some in let rest = none some in let here = never bid.position (f bid) in omega (arith, first, rest, here)
        where
          never : (p count : ℕ) → cond (nat_lt p 0) count 0 ≡ 0
          never p count = grind (arith, nat_tests)
  below bids (suc n) =
      let before = below bids n in
      let one_more = sum_by_push (λ p. sum_by f (filter (λ (bid : Placed). bid.position == p) bids)) (positions_below n) n in
      let parts = one_position n bids in
      omega (arith, before, one_more, parts)

  by_positions : (bids : List Placed) (n : ℕ) → sum_by (λ p. sum_by f (filter (λ bid. bid.position == p) bids)) (positions_below n) ≤ sum_by f bids
  by_positions bids n = let whole = below bids n in let some = sum_by-filter-le f (λ (bid : Placed). nat_lt bid.position n) bids in omega (arith, whole, some)

-- ---- each agent has one bid

abbrev is_bid_of : ℕ → Placed → Bool
is_bid_of agent bid = bid.agent == agent

pub agents_once : (agent : ℕ) → agent ≤ 7 → count_by (λ a. a == agent) agents ≤ 1
agents_once zero le = omega arith
agents_once (suc zero) le = omega arith
agents_once (suc (suc zero)) le = omega arith
agents_once (suc (suc (suc zero))) le = omega arith
agents_once (suc (suc (suc (suc zero)))) le = omega arith
agents_once (suc (suc (suc (suc (suc zero))))) le = omega arith
agents_once (suc (suc (suc (suc (suc (suc zero)))))) le = omega arith
agents_once (suc (suc (suc (suc (suc (suc (suc zero))))))) le = omega arith
agents_once (suc (suc (suc (suc (suc (suc (suc (suc n)))))))) le = absurd (omega arith)

own_bids : (past : List Entry) (agent : ℕ) (who : List ℕ) → count_by (is_bid_of agent) (filter_map (λ a. last_bid a past) who) ≤ count_by (λ a. a == agent) who
own_bids past agent [] = omega arith
own_bids past agent (a ∷ who) =
    let first = count-cons (λ b. b == agent) a who in
    let rest = own_bids past agent who in
    let here = by_bid (last_bid a past) (last_is a past) in
    omega (arith, first, rest, here)
  where
    others : List Placed
    others = filter_map (λ b. last_bid b past) who

    by_bid : (bid : Option Placed) → IsBidOf a (length past) bid → count_by (is_bid_of agent) (cons_option bid others) ≤ cond (a == agent) 1 0 + count_by (is_bid_of agent) others
    by_bid None own = omega arith
    by_bid (Some bid) own =
        let first : count_by (is_bid_of agent) (bid ∷ others) ≡ cond (a == agent) 1 0 + count_by (is_bid_of agent) others =
        count-cons (is_bid_of agent) bid others ∙ ap (λ (b : ℕ). cond (b == agent) 1 0 + count_by (is_bid_of agent) others) own.0 in
        omega (arith, first)

-- among the last bids, with a new one in place of its caller's, at most one is an agent's
looked_once : (bids : List Placed) (position caller agent : ℕ) (call : Call) → count_by (is_bid_of agent) bids ≤ 1 → count_by (is_bid_of agent) (bids_looked_at bids position caller call) ≤ 1
looked_once bids position caller agent (Bid points) once =
    let parts = sum_by-append (λ bid. cond (is_bid_of agent bid) 1 0) (filter (λ bid. not (bid.agent == caller)) bids) (new ∷ []) in
    let alone : count_by (is_bid_of agent) (new ∷ []) ≡ cond (caller == agent) 1 0 + 0 = count-cons (is_bid_of agent) new [] in
    let together = by_test (caller == agent) refl in
    omega (arith, parts, alone, together)
  where
    new : Placed
    new = record { agent = caller; position = position; points = points }

    apart : (a : ℕ) → (caller == agent) ≡ true → (not (a == caller) && (a == agent)) ≡ false
    apart a same = grind (arith, nat_tests)

    by_test : (b : Bool) → (caller == agent) ≡ b → count_by (is_bid_of agent) (filter (λ bid. not (bid.agent == caller)) bids) + (cond b 1 0 + 0) ≤ 1
    by_test true same =
        let kept = count-filter (λ (bid : Placed). not (bid.agent == caller)) (is_bid_of agent) bids in
        let none = none_pass (λ (bid : Placed). not (bid.agent == caller) && (bid.agent == agent)) bids (λ bid is. apart bid.agent same) in
        omega (arith, kept, none)
    by_test false differ =
        let fewer = sum_by-filter-le (λ bid. cond (is_bid_of agent bid) 1 0) (λ (bid : Placed). not (bid.agent == caller)) bids in
        omega (arith, fewer, once)
looked_once bids position caller agent Withdraw once = once
looked_once bids position caller agent OwnCall once = once
looked_once bids position caller agent (Update tick draw) once = once
looked_once bids position caller agent Publish once = once
looked_once bids position caller agent Close once = once

-- ---- one bid

-- whether the unit is the agent's, at the price or more
abbrev asks : ℕ → ℕ → BidUnit → Bool
asks agent price u = (u.agent == agent) && nat_le price u.price

module _ (good current : ℕ) (units : List BidUnit) (agent price : ℕ) (bid : Placed) where
  -- what the agent buys by points that are numbered from an index
  abbrev point_bought : ℕ → List Point → ℕ
  point_bought from points = sum_by (paid agent price) (point_trades good current units bid from points)

  later : (from n : ℕ) → count_by (λ u. asks agent price u && is_within from n u) units + count_by (λ u. asks agent price u && nat_le (from + n) u.index) units ≤ count_by (λ u. asks agent price u && nat_le from u.index) units
  later from n = count_two (λ u. asks agent price u && is_within from n u) (λ u. asks agent price u && nat_le (from + n) u.index) (λ u. asks agent price u && nat_le from u.index) units (λ u. apart (asks agent price u) u.index)
    where
      apart : (b : Bool) (i : ℕ) → cond (b && (nat_le from i && nat_lt i (from + n))) 1 0 + cond (b && nat_le (from + n) i) 1 0 ≤ cond (b && nat_le from i) 1 0
      apart false i = omega arith
      apart true i = grind (arith, nat_tests)

  points_bid : (from : ℕ) (points : List Point) → point_bought from points ≤ count_by (λ u. asks agent price u && nat_le from u.index) units
  points_bid from [] = omega arith
  points_bid from (point ∷ points) =
      let first = by_tests (nat_le current point.price) (nat_lt 0 count) refl in
      let rest = points_bid (from + size_of point) points in
      let split = later from (size_of point) in
      omega (arith, first, rest, split)
    where
      count : ℕ
      count = common_units (point_units bid.agent bid.position from point) units

      trade : Trade
      trade = record { buyer = bid.agent; seller = house; good = good; units = count; price = current }

      more : List Trade
      more = point_trades good current units bid (from + size_of point) points

      passes : (b c : ℕ) → (b == agent) ≡ true → nat_le price current ≡ true → nat_le current c ≡ true → ((b == agent) && nat_le price c) ≡ true
      passes b c own dear reaches = grind (arith, nat_tests)

      found : nat_le current point.price ≡ true → (b : Bool) → ((bid.agent == agent) && nat_le price current) ≡ b → cond b count 0 ≤ count_by (λ u. asks agent price u && is_within from (size_of point) u) units
      found reaches false is = omega arith
      found reaches true is =
          let both = and_parts (bid.agent == agent) (nat_le price current) is in
          block_found (asks agent price) (record { agent = bid.agent; buys = buys_of point.units; price = point.price; position = bid.position; index = from }) (size_of point) units
          (λ i. passes bid.agent point.price both.0 both.1 reaches)

      by_tests : (a b : Bool) → nat_le current point.price ≡ a → sum_by (paid agent price) (cond (a && b) (trade ∷ more) more) ≤ count_by (λ u. asks agent price u && is_within from (size_of point) u) units + sum_by (paid agent price) more
      by_tests true true reaches = let first = sum_by-cons (paid agent price) trade more in let one = found reaches ((bid.agent == agent) && nat_le price current) refl in omega (arith, first, one)
      by_tests true false reaches = omega arith
      by_tests false b reaches = omega arith

  -- another agent buys nothing by the bid
  other_bid : is_bid_of agent bid ≡ false → point_bought 0 bid.points ≡ 0
  other_bid other =
      sum_nothing (paid agent price) (point_trades good current units bid 0 bid.points) (each 0 bid.points)
    where
      none : (count : ℕ) → cond ((bid.agent == agent) && nat_le price current) count 0 ≡ 0
      none count = rw other refl

      each : (from : ℕ) (points : List Point) → AllByRecursion (λ t. paid agent price t ≡ 0) (point_trades good current units bid from points)
      each from [] = tt
      each from (point ∷ points) = all-if-more (nat_le current point.price && nat_lt 0 count) (none count) (each (from + size_of point) points)
        where
          count : ℕ
          count = common_units (point_units bid.agent bid.position from point) units

          all-if-more : (b : Bool) → cond ((bid.agent == agent) && nat_le price current) count 0 ≡ 0 → AllByRecursion (λ t. paid agent price t ≡ 0) (point_trades good current units bid (from + size_of point) points) →
              AllByRecursion (λ t. paid agent price t ≡ 0)
              (cond b (record { buyer = bid.agent; seller = house; good = good; units = count; price = current } ∷ point_trades good current units bid (from + size_of point) points)
              (point_trades good current units bid (from + size_of point) points))
          all-if-more true nothing more = (nothing, more)
          all-if-more false nothing more = more

  one_bid : AllBuy units → point_bought 0 bid.points ≤ bid_at units agent price
  one_bid buying =
      let bought = points_bid 0 bid.points in
      let more = count_le (λ u. asks agent price u && nat_le 0 u.index) (λ u. u.buys && ((u.agent == agent) && nat_le price u.price)) units
      (λ u is passing. rw (each_in (λ v. v.buys ≡ true) u units buying is) (and_parts (asks agent price u) (nat_le 0 u.index) passing).0) in
      omega (arith, bought, more)

-- ---- all bids

pub flight_paid : (good current : ℕ) (units : List BidUnit) (past : List Entry) (position caller : ℕ) (call : Call) (end agent price : ℕ) → agent ≤ 7 → AllBuy units →
    bought_at (unit_trades good current units (bids_looked_at (filter_map (λ a. last_bid a past) agents) position caller call) end) agent price ≤ bid_at units agent price
flight_paid good current units past position caller call end agent price le buying =
    let is = bought_is (unit_trades good current units bids end) agent price in
    let positions = sum-flat_map (paid agent price) (λ p. flat_map of_bid (filter (λ bid. bid.position == p) bids)) (positions_below end) in
    let each = sum_by-le-sum_by (λ p. sum_by (paid agent price) (flat_map of_bid (filter (λ (bid : Placed). bid.position == p) bids))) (λ p. sum_by bought (filter (λ (bid : Placed). bid.position == p) bids)) (positions_below end) (λ p. same (filter (λ (bid : Placed). bid.position == p) bids)) in
    let all = by_positions bought bids end in
    let one = counted_once (is_bid_of agent) bought (bid_at units agent price) bids (λ bid other. other_bid good current units agent price bid other) (λ bid. one_bid good current units agent price bid buying) once in
    omega (arith, is, positions, each, all, one)
  where
    bids : List Placed
    bids = bids_looked_at (filter_map (λ a. last_bid a past) agents) position caller call

    of_bid : Placed → List Trade
    of_bid bid = point_trades good current units bid 0 bid.points

    bought : Placed → ℕ
    bought bid = sum_by (paid agent price) (of_bid bid)

    same : (some : List Placed) → sum_by (paid agent price) (flat_map of_bid some) ≤ sum_by bought some
    same some = let is = sum-flat_map (paid agent price) of_bid some in omega (arith, is)

    once : count_by (is_bid_of agent) bids ≤ 1
    once =
        let own = own_bids past agent agents in
        let few = agents_once agent le in
        looked_once (filter_map (λ a. last_bid a past) agents) position caller agent call (omega (arith, own, few))
