-- What each trade of a flight has.
use Rattle.std.proofs.Common.{◌≡◌, ℕ, List, length, refl, ◌==◌, not, filter}
use Rattle.std.specs.List.{AllByRecursion, range_with_len}
use Rattle.auction_rules.specs.{Point, Trade, Call, Entry, stand, placed_bids, by_position, owned_by, standing_of, standing_points, points_looked_at, is_sold, sale, flight_trades}
use Rattle.tac_base.specs.declared.calls.Call.TheVariants.{Bid, Withdraw, Own as OwnCall, Update, Publish, Close}
use Rattle.auction_rules.specs.declared.units.Placed.{Placed}
use Rattle.auction_rules.specs.declared.units.StandingPoint.{StandingPoint}
use Rattle.auction_rules.specs.declared.rules.Rules.{Rules}
use Rattle.auction_rules.proofs.Lists.{all-append, all-filter, all-flat_map, all-map, all-weaker, all_alike}

-- each trade is the sale of one of the points
pub each_flight_trade : (P : Trade → Type 0) (good current : ℕ) (points : List StandingPoint) → AllByRecursion (λ s. P (sale good current s)) points →
    AllByRecursion P (flight_trades good current points)
each_flight_trade P good current points each = all-map P (sale good current) (filter (is_sold current) points) (all-filter (λ s. P (sale good current s)) (is_sold current) points each)

-- each point that a call looks at is of an agent of whom this holds
module _ (P : ℕ → Type 0) where
  each_owned : (agent : ℕ) (points : List Point) → P agent → AllByRecursion (λ s. P s.agent) (owned_by agent points)
  each_owned agent points h = all-map (λ (s : StandingPoint). P s.agent) (λ point. record { agent = agent; point = point }) points (all_alike (λ point. P agent) points (λ point. h))

  each_in_order : (bids : List Placed) (end : ℕ) → AllByRecursion (λ bid. P bid.agent) bids → AllByRecursion (λ bid. P bid.agent) (by_position bids end)
  each_in_order bids end each =
      all-flat_map (λ (bid : Placed). P bid.agent) (λ position. filter (λ bid. bid.position == position) bids) (range_with_len 0 end)
      (all_alike _ (range_with_len 0 end) (λ position. all-filter (λ (bid : Placed). P bid.agent) (λ bid. bid.position == position) bids each))

  each_standing : (rules : Rules) (past : List Entry) → AllByRecursion (λ bid. P bid.agent) (placed_bids past) → AllByRecursion (λ s. P s.agent) (standing_points rules past)
  each_standing rules past each =
      all-flat_map (λ (s : StandingPoint). P s.agent) (standing_of (stand rules past)) (by_position (placed_bids past) (length past))
      (all-weaker (λ (bid : Placed). P bid.agent) _ (by_position (placed_bids past) (length past)) (λ bid h. each_owned bid.agent _ h)
      (each_in_order (placed_bids past) (length past) each))

  pub each_looked_at : (rules : Rules) (past : List Entry) (caller : ℕ) (call : Call) → ((points : List Point) → call ≡ Bid points → P caller) →
      AllByRecursion (λ bid. P bid.agent) (placed_bids past) → AllByRecursion (λ s. P s.agent) (points_looked_at (standing_points rules past) caller call)
  each_looked_at rules past caller (Bid points) new each =
      all-append (λ (s : StandingPoint). P s.agent) (filter (λ s. not (s.agent == caller)) (standing_points rules past)) (owned_by caller points)
      (all-filter (λ (s : StandingPoint). P s.agent) (λ s. not (s.agent == caller)) (standing_points rules past) (each_standing rules past each)) (each_owned caller points (new points refl))
  each_looked_at rules past caller Withdraw new each = each_standing rules past each
  each_looked_at rules past caller OwnCall new each = each_standing rules past each
  each_looked_at rules past caller (Update tick draw) new each = each_standing rules past each
  each_looked_at rules past caller Publish new each = each_standing rules past each
  each_looked_at rules past caller Close new each = each_standing rules past each
