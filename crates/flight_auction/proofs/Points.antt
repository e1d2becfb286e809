-- The points of one agent among those that stand.
use Rattle.std.proofs.Common.{◌≡◌, ℕ, ◌+◌, ◌<◌, true, cond, List, length, arith, get_or, take}
use Rattle.std.proofs.lemmas.List.Sums.{length-filter, count_by_more_yes, sum_by-take-le}
use Rattle.std.proofs.lemmas.List.{length-map}
use Rattle.auction_rules.specs.declared.units.StandingPoint.{StandingPoint}
use Rattle.flight_auction.specs.Book.{is_points_agent, agents_points}

-- one more point of the agent is one of all
pub points_more : (agent : ℕ) (standing : List StandingPoint) (i : ℕ) (d : StandingPoint) → i < length standing → is_points_agent agent (get_or standing i d) ≡ true →
    length (agents_points agent (take i standing)) < length (agents_points agent standing)
points_more agent standing i d h is =
    simp (length-map, length-filter)
    (omega (arith, count_by_more_yes (is_points_agent agent) standing i d h is, sum_by-take-le (λ (s : StandingPoint). cond (is_points_agent agent s) 1 0) standing (i + 1)))
