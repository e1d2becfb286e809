-- Nobody trades with itself, and each trade is between two of the nine parties.
use Rattle.std.proofs.Common.{◌≡◌, ℕ, ◌≤◌, Bool, true, false, cond, List, length, refl, ap, ◌∙◌, sym, arith, Option, Some, None, IfSome, ◌≢◌, not, ◌&&◌, ◌||◌, ◌==◌, if◌then◌else◌}
use Rattle.std.specs.List.{AllByRecursion}
use Rattle.std.proofs.lemmas.Bool.{or_parts}
use Rattle.std.proofs.lemmas.Bool.Decides.{nat_tests}
use Rattle.auction_rules.specs.{Point, Trade, Call, Reply, Closed, WrongCall, agents, clock, house, Entry, is_own, is_closed, last_bid, price, price_after, standing_points, points_looked_at, placed_bids, sale, arriving, faces, crosses, pairs, pair_trade, ticket_trades, stand, ask, winning, closing_trade, closing_trades, is_wrong_caller, is_wrong_place, call_refusal, refusal, HasTwoParties, entry_by, trades_by, trades_of, units_of}
use Rattle.tac_base.specs.declared.calls.Call.TheVariants.{Bid, Withdraw, Own as OwnCall, Update, Publish, Close}
use Rattle.auction_rules.specs.declared.units.Placed.{Placed}
use Rattle.auction_rules.specs.declared.units.StandingPoint.{StandingPoint}
use Rattle.auction_rules.specs.declared.units.BidUnit.{BidUnit}
use Rattle.auction_rules.specs.Setup.{Setup}
use Rattle.auction_rules.specs.declared.rules.Rules.{Rules}
use Rattle.auction_rules.specs.declared.rules.Rules.TheVariants.{Flight as FlightRules, Hotel as HotelRules, Tickets as TicketRules}
use Rattle.auction_rules.proofs.Agents.{agents_within}
use Rattle.auction_rules.proofs.AgentUnits.{stand_owned}
use Rattle.auction_rules.proofs.Lists.{all-filter_map, all-if, all-map, all-weaker}
use Rattle.auction_rules.proofs.Standing.{Each, each-weaker, IsPlaced, each-placed, IsBidOf, last_is}
use Rattle.auction_rules.proofs.Matching.{each_pair, faces_differ}
use Rattle.auction_rules.proofs.FlightTrades.{each_flight_trade, each_looked_at}

-- a trade is between two of the nine parties
abbrev IsBetween : Trade → Type 0
IsBetween trade = HasTwoParties trade × (trade.buyer ≤ house) × (trade.seller ≤ house)

from_house : (agent : ℕ) → agent ≤ 7 → (agent ≢ house) × (agent ≤ house) × (house ≤ house)
from_house agent le = (λ same. absurd (omega (arith, le, same)), omega (arith, le), omega arith)

-- ---- the caller of a call

-- an admitted call is of a caller that may make it
pub admitted_caller : (rules : Rules) (past : List Entry) (caller : ℕ) (call : Call) → refusal rules past caller call ≡ None → is_wrong_caller caller call ≡ false
admitted_caller rules past caller call h =
    (or_parts (is_wrong_caller caller call) (is_wrong_place rules call) (by_tests (not (is_own call) && is_closed past) (is_wrong_caller caller call || is_wrong_place rules call) h)).0
  where
    by_tests : (a b : Bool) → (if a then Some Closed else if b then Some WrongCall else call_refusal rules past caller call) ≡ None → b ≡ false
    by_tests true b g = cc
    by_tests false true g = cc
    by_tests false false g = refl

pub bidder_is_agent : (rules : Rules) (past : List Entry) (caller : ℕ) (points : List Point) → caller ≤ 8 → refusal rules past caller (Bid points) ≡ None → caller ≤ 7
bidder_is_agent rules past caller points le h = below (admitted_caller rules past caller (Bid points) h)
  where
    below : (caller == clock) ≡ false → caller ≤ 7
    below other = grind (arith, nat_tests)

-- ---- flights

-- each bid that a call looks at is an agent's
abbrev IsOfAgent : Placed → Type 0
IsOfAgent bid = bid.agent ≤ 7

last_of_agents : (past : List Entry) → AllByRecursion IsOfAgent (placed_bids past)
last_of_agents past = all-filter_map IsOfAgent (λ agent. last_bid agent past) agents (all-weaker (λ agent. agent ≤ 7) _ agents (λ agent le. one agent (last_bid agent past) le (last_is agent past)) agents_within)
  where
    one : (agent : ℕ) (bid : Option Placed) → agent ≤ 7 → IsBidOf agent (length past) bid → IfSome bid IsOfAgent
    one agent None le is = tt
    one agent (Some bid) le is = rw (is.0) le

-- ---- hotels

closing_parties : (good rooms : ℕ) (units : List BidUnit) → AllByRecursion IsBetween (closing_trades good rooms units)
closing_parties good rooms units =
    all-filter_map IsBetween (closing_trade good rooms units) agents (all-weaker (λ agent. agent ≤ 7) _ agents (λ agent le. one agent (winning rooms units agent == 0) le) agents_within)
  where
    one : (agent : ℕ) (b : Bool) → agent ≤ 7 → IfSome (cond b None (Some (record { buyer = agent; seller = house; good = good; units = winning rooms units agent; price = ask rooms units }))) IsBetween
    one agent true le = tt
    one agent false le = from_house agent le

-- ---- tickets

ticket_parties : (good : ℕ) (standing units : List BidUnit) → Each (λ u. u.agent ≤ 7) standing → Each (λ u. u.agent ≤ 7) units → AllByRecursion IsBetween (ticket_trades good standing units)
ticket_parties good standing units of_agents new =
    all-map IsBetween (pair_trade good) (pairs standing units)
    (each_pair (λ u. u.agent ≤ 7) (λ u. u.agent ≤ 7) (λ pair. IsBetween (pair_trade good pair)) between standing units of_agents new)
  where
    between : (u w : BidUnit) → u.agent ≤ 7 → w.agent ≤ 7 → faces u w ≡ true → crosses u w ≡ true → IsBetween (pair_trade good (u, w))
    between u w le le' facing crossing = by_side u.buys
      where
        by_side : (b : Bool) →
            IsBetween
            (cond {A = Trade} b (record { buyer = u.agent; seller = w.agent; good = good; units = 1; price = w.price })
            (record { buyer = w.agent; seller = u.agent; good = good; units = 1; price = w.price }))
        by_side true = (faces_differ u w facing, omega (arith, le), omega (arith, le'))
        by_side false = (λ same. faces_differ u w facing (sym same), omega (arith, le'), omega (arith, le))

-- the units that arrive with an admitted call are an agent's
arriving_owned : (rules : Rules) (past : List Entry) (position caller : ℕ) (call : Call) → caller ≤ 8 → refusal rules past caller call ≡ None → Each (λ u. u.agent ≤ 7) (arriving position caller call)
arriving_owned rules past position caller (Bid points) le admitted =
    let agent = bidder_is_agent rules past caller points le admitted in
    each-weaker (IsPlaced caller position) (λ u. u.agent ≤ 7) (units_of (record { agent = caller; position = position; points = points })) (λ u own. rw (own.0) agent) (each-placed caller position 0 points)
arriving_owned rules past position caller Withdraw le admitted = tt
arriving_owned rules past position caller OwnCall le admitted = tt
arriving_owned rules past position caller (Update tick draw) le admitted = tt
arriving_owned rules past position caller Publish le admitted = tt
arriving_owned rules past position caller Close le admitted = tt

-- ---- all auctions

admitted_parties : (rules : Rules) (good : ℕ) (past : List Entry) (caller : ℕ) (call : Call) → caller ≤ 8 → refusal rules past caller call ≡ None →
    AllByRecursion IsBetween (trades_by rules good past caller call)
admitted_parties (FlightRules first bound) good past caller call le admitted =
    all-if IsBetween _ _
    (each_flight_trade IsBetween good current points
    (all-weaker (λ (s : StandingPoint). s.agent ≤ 7) (λ s. IsBetween (sale good current s)) points (λ s agent. from_house s.agent agent)
    (each_looked_at (λ agent. agent ≤ 7) (FlightRules first bound) past caller call (λ new is. bidder_is_agent (FlightRules first bound) past caller new le (ap (refusal (FlightRules first bound) past caller) (sym is) ∙ admitted))
    (last_of_agents past))))
  where
    current : ℕ
    current = price_after bound (price first bound past) call

    points : List StandingPoint
    points = points_looked_at (standing_points (FlightRules first bound) past) caller call
admitted_parties (HotelRules rooms live) good past caller call le admitted = all-if IsBetween _ _ (closing_parties good rooms (stand (HotelRules rooms live) past))
admitted_parties TicketRules good past caller call le admitted =
    ticket_parties good (stand TicketRules past) (arriving (length past) caller call) (stand_owned TicketRules past) (arriving_owned TicketRules past (length past) caller call le admitted)

-- each trade of a call is between two of the nine parties
between_parties : (setup : Setup) (past : List Entry) (caller : ℕ) (call : Call) → caller ≤ 8 → AllByRecursion IsBetween (trades_of setup past caller call)
between_parties setup past caller call le = by_refusal (refusal setup.rules past caller call) refl
  where
    by_refusal : (refused : Option Reply) → refusal setup.rules past caller call ≡ refused → AllByRecursion IsBetween (entry_by setup past caller call refused).trades
    by_refusal (Some reply) h = tt
    by_refusal None h = admitted_parties setup.rules setup.good past caller call le h

-- in no trade of a call is the buyer the seller
pub nobody_trades_with_itself : (setup : Setup) (past : List Entry) (caller : ℕ) (call : Call) → caller ≤ 8 → AllByRecursion HasTwoParties (trades_of setup past caller call)
nobody_trades_with_itself setup past caller call le = all-weaker IsBetween HasTwoParties (trades_of setup past caller call) (λ trade between. between.0) (between_parties setup past caller call le)

-- each party of a trade is one of the nine
pub parties_within : (setup : Setup) (past : List Entry) (caller : ℕ) (call : Call) → caller ≤ 8 → AllByRecursion (λ t. (t.buyer ≤ house) × (t.seller ≤ house)) (trades_of setup past caller call)
parties_within setup past caller call le = all-weaker IsBetween (λ t. (t.buyer ≤ house) × (t.seller ≤ house)) (trades_of setup past caller call) (λ trade between. (between.1, between.2)) (between_parties setup past caller call le)
