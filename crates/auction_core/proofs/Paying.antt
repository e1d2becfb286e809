-- Nobody pays more than it bid: no agent buys more units at a price or more than units looked at bid so much.
use Rattle.std.proofs.Common.{◌≡◌, ℕ, ◌+◌, ◌≤◌, Bool, true, false, cond, List, [], length, refl, subst, arith, Option, Some, None, ℤ}
use Rattle.auction_core.specs.{Trade, Call, Reply, BidUnit, Setup, Rules, price, price_after, is_sale, looked_at, standing_points, points_looked_at, flight_trades, stand, refusal, IsLawful, entry_by, trades_by, trades_of, bought_at, bid_at}
use Rattle.tac_base.specs.declared.calls.Call.TheVariants.{Bid, Withdraw, Own as OwnCall, Update, Publish, Close}
use Rattle.auction_rules.specs.declared.rules.Rules.TheVariants.{Flight as FlightRules, Hotel as HotelRules, Tickets as TicketRules}
use Rattle.auction_rules.specs.History.{Entry}
use Rattle.auction_rules.proofs.Standing.{each-weaker, IsPlaced, each-placed}
use Rattle.flight_auction.proofs.UnitTrades.{by_units}
use Rattle.auction_core.proofs.Buying.{HouseSells, AllBuy, looked_buys}
use Rattle.auction_core.proofs.FlightPays.{flight_paid}
use Rattle.auction_core.proofs.HotelPays.{hotel_paid}
use Rattle.auction_core.proofs.TicketPays.{ticket_paid}

-- no more is bought than units bid
abbrev AreBid : List BidUnit → ℕ → ℕ → List Trade → Type 0
AreBid units agent dollars trades = bought_at trades agent dollars ≤ bid_at units agent dollars

module _ (good : ℕ) (past : List Entry) (caller : ℕ) (agent dollars : ℕ) (le : agent ≤ 7) where
  abbrev looked : Rules → Call → List BidUnit
  looked rules call = looked_at (stand rules past) (length past) caller call

  flight : (first : ℕ) (bound : ℤ) (call : Call) → AllBuy (looked (FlightRules first bound) call) → AreBid (looked (FlightRules first bound) call) agent dollars (trades_by (FlightRules first bound) good past caller call)
  flight first bound call buying = by_test (is_sale call)
    where
      rules : Rules
      rules = FlightRules first bound

      current : ℕ
      current = price_after bound (price first bound past) call

      units : List BidUnit
      units = looked_at (stand rules past) (length past) caller call

      by_test : (b : Bool) → AreBid units agent dollars (cond b (flight_trades good current (points_looked_at (standing_points rules past) caller call)) [])
      by_test true = subst (AreBid units agent dollars) (by_units rules good current past caller call) (flight_paid good current units past (length past) caller call (length past + 1) agent dollars le buying)
      by_test false = omega arith

  hotel : (rooms : ℕ) (live : Bool) (call : Call) → AllBuy (looked (HotelRules rooms live) call) → AreBid (looked (HotelRules rooms live) call) agent dollars (trades_by (HotelRules rooms live) good past caller call)
  hotel rooms live (Bid points) buying = omega arith
  hotel rooms live Withdraw buying = omega arith
  hotel rooms live OwnCall buying = omega arith
  hotel rooms live (Update tick draw) buying = omega arith
  hotel rooms live Publish buying = omega arith
  hotel rooms live Close buying = hotel_paid good rooms (stand (HotelRules rooms live) past) agent dollars le buying

  tickets : (call : Call) → AreBid (looked TicketRules call) agent dollars (trades_by TicketRules good past caller call)
  tickets (Bid points) =
      ticket_paid good caller agent dollars (stand TicketRules past) _ (each-weaker (IsPlaced caller (length past)) (λ u. u.agent ≡ caller) _ (λ u placed. placed.0) (each-placed caller (length past) 0 points))
  tickets Withdraw = omega arith
  tickets OwnCall = omega arith
  tickets (Update tick draw) = omega arith
  tickets Publish = omega arith
  tickets Close = omega arith

-- whatever the rules
admitted_paid : (setup : Setup) (past : List Entry) (caller : ℕ) (call : Call) → IsLawful setup past → refusal setup.rules past caller call ≡ None → (agent dollars : ℕ) → agent ≤ 7 →
    AreBid (looked_at (stand setup.rules past) (length past) caller call) agent dollars (trades_by setup.rules setup.good past caller call)
admitted_paid setup past caller call lawful admitted agent dollars le = by_rules setup.rules (λ house. looked_buys setup house past caller call lawful admitted)
  where
    by_rules : (rules : Rules) → (HouseSells rules → AllBuy (looked_at (stand rules past) (length past) caller call)) →
        AreBid (looked_at (stand rules past) (length past) caller call) agent dollars (trades_by rules setup.good past caller call)
    by_rules (FlightRules first bound) buying = flight setup.good past caller agent dollars le first bound call (buying tt)
    by_rules (HotelRules rooms live) buying = hotel setup.good past caller agent dollars le rooms live call (buying tt)
    by_rules TicketRules buying = tickets setup.good past caller agent dollars le call

-- of the call after a lawful past
pub nobody_pays_more : (setup : Setup) (past : List Entry) (caller : ℕ) (call : Call) → IsLawful setup past → (agent dollars : ℕ) → agent ≤ 7 →
    bought_at (trades_of setup past caller call) agent dollars ≤ bid_at (looked_at (stand setup.rules past) (length past) caller call) agent dollars
nobody_pays_more setup past caller call lawful agent dollars le = by_refusal (refusal setup.rules past caller call) refl
  where
    by_refusal : (refused : Option Reply) → refusal setup.rules past caller call ≡ refused →
        AreBid (looked_at (stand setup.rules past) (length past) caller call) agent dollars (entry_by setup past caller call refused).trades
    by_refusal (Some reply) is = omega arith
    by_refusal None is = admitted_paid setup past caller call lawful is agent dollars le
