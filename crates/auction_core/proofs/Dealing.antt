-- Each trade of a call is of the auction's good, and between two of the nine parties.
use Rattle.std.proofs.Common.{◌≡◌, ℕ, ◌≤◌, Bool, true, false, cond, List, [], ◌∷◌, length, refl, Option, Some, None, IfSome, ◌==◌, All}
use Rattle.std.specs.List.{AllByRecursion}
use Rattle.std.proofs.lemmas.List.Elements.{All-from_recursion}
use Rattle.auction_core.specs.Prelude.{Call, Reply, Trade, BidUnit, agents, house, Setup, Rules, price, price_after, is_sale, standing_points, points_looked_at, flight_trades, arriving, pairs, pair_trade, ticket_trades, stand, winning, closing_trade, closing_trades, refusal, trades_by, entry_by, trades_of}
use Rattle.auction_rules.specs.declared.units.StandingPoint.{StandingPoint}
use Rattle.auction_rules.specs.declared.rules.Rules.TheVariants.{Flight as FlightRules, Hotel as HotelRules, Tickets as TicketRules}
use Rattle.auction_rules.specs.History.{Entry, is_close}
use Rattle.auction_rules.proofs.Lists.{all-if, all-map, all-filter_map, all_alike}
use Rattle.auction_rules.proofs.FlightTrades.{each_flight_trade}
use Rattle.auction_rules.proofs.SelfTrades.{parties_within}

-- a trade of the good, between two of the nine parties
pub record IsDealt (good : ℕ) (t : Trade) : Type 0 where
  pub good_is : t.good ≡ good
  pub buyer : t.buyer ≤ house
  pub seller : t.seller ≤ house

-- a trade of the good
abbrev pub IsOf : ℕ → Trade → Type 0
IsOf good t = t.good ≡ good

flight_goods : (good current : ℕ) (points : List StandingPoint) → AllByRecursion (IsOf good) (flight_trades good current points)
flight_goods good current points = each_flight_trade (IsOf good) good current points (all_alike _ points (λ point. refl))

if_some : (good : ℕ) (t : Trade) (b : Bool) → IsOf good t → IfSome (cond b None (Some t)) (IsOf good)
if_some good t true h = tt
if_some good t false h = h

closing_goods : (good rooms : ℕ) (units : List BidUnit) → AllByRecursion (IsOf good) (closing_trades good rooms units)
closing_goods good rooms units =
    all-filter_map (IsOf good) (closing_trade good rooms units) agents
    (all_alike (λ agent. IfSome (closing_trade good rooms units agent) (IsOf good)) agents (λ agent. if_some good _ (winning rooms units agent == 0) refl))

pair_good : (good : ℕ) (u v : BidUnit) (b : Bool) → u.buys ≡ b → IsOf good (pair_trade good (u, v))
pair_good good u v true e = rw e refl
pair_good good u v false e = rw e refl

ticket_goods : (good : ℕ) (standing units : List BidUnit) → AllByRecursion (IsOf good) (ticket_trades good standing units)
ticket_goods good standing units =
    all-map (IsOf good) (pair_trade good) (pairs standing units)
    (all_alike (λ pair. IsOf good (pair_trade good pair)) (pairs standing units) (λ pair. pair_good good pair.0 pair.1 pair.0.buys refl))

goods_by : (rules : Rules) (good : ℕ) (past : List Entry) (caller : ℕ) (call : Call) → AllByRecursion (IsOf good) (trades_by rules good past caller call)
goods_by (FlightRules first bound) good past caller call =
    all-if (IsOf good) (is_sale call) _ (flight_goods good (price_after bound (price first bound past) call) (points_looked_at (standing_points (FlightRules first bound) past) caller call))
goods_by (HotelRules rooms live) good past caller call = all-if (IsOf good) (is_close call) _ (closing_goods good rooms (stand (HotelRules rooms live) past))
goods_by TicketRules good past caller call = ticket_goods good (stand TicketRules past) (arriving (length past) caller call)

pub traded_goods : (setup : Setup) (past : List Entry) (caller : ℕ) (call : Call) → AllByRecursion (IsOf setup.good) (trades_of setup past caller call)
traded_goods setup past caller call = by_refusal (refusal setup.rules past caller call)
  where
    by_refusal : (refused : Option Reply) → AllByRecursion (IsOf setup.good) (entry_by setup past caller call refused).trades
    by_refusal (Some reply) = tt
    by_refusal None = goods_by setup.rules setup.good past caller call

pub all_dealt : (setup : Setup) (past : List Entry) (caller : ℕ) (call : Call) → caller ≤ 8 → All (IsDealt setup.good) (trades_of setup past caller call)
all_dealt setup past caller call le = All-from_recursion (IsDealt setup.good) (trades_of setup past caller call) (both (trades_of setup past caller call) (traded_goods setup past caller call) (parties_within setup past caller call le))
  where
    both : (trades : List Trade) → AllByRecursion (IsOf setup.good) trades → AllByRecursion (λ t. (t.buyer ≤ house) × (t.seller ≤ house)) trades → AllByRecursion (IsDealt setup.good) trades
    both [] h k = tt
    both (t ∷ trades) h k = (record { good_is = h.0; buyer = k.0.0; seller = k.0.1 }, both trades h.1 k.1)
