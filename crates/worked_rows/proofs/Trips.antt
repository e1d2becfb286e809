-- What trips use and are worth, which lists are no trip, and two allocations over one seat.
use Rattle.std.proofs.Common.{◌≡◌, ◌<◌, ◌≤◌, ℕ, ℤ, true, false, [], ◌∷◌, List, pos, negsuc, map, refl, arith, ◌++◌, ◌-◌, replicate, filter, nat_lt}
use Rattle.std.specs.List.{range_with_len}
use Rattle.game_text.specs.Accounts.{AccountFile}
use Rattle.packages.specs.declared.travel_packages.Package.{Package}
use Rattle.packages.specs.declared.travel_packages.Package.TheVariants.{None, Trip}
use Rattle.packages.specs.Packages.{is_package, use_of, utility_of}
use Rattle.packages.specs.Stocks.{stock_of}
use Rattle.packages.specs.BestTotal.{used_by, total_of, IsFeasible}

-- Shoreline Shanties from day 1 to day 5, with alligator wrestling on night 1 and the amusement park on night 3
abbrev long_trip : Package
long_trip = Trip 0 1 5 (1 ∷ 3 ∷ 0 ∷ [])

-- the goods that a package uses
abbrev goods_of : Package → List ℕ
goods_of p = filter (λ good. nat_lt 0 (use_of p good)) (range_with_len 0 28)

trips_use_four_and_eight_goods : (goods_of (Trip 1 2 3 (0 ∷ 0 ∷ 2 ∷ [])) ≡ 1 ∷ 5 ∷ 13 ∷ 25 ∷ []) × (goods_of long_trip ≡ 0 ∷ 7 ∷ 8 ∷ 9 ∷ 10 ∷ 11 ∷ 16 ∷ 22 ∷ [])
trips_use_four_and_eight_goods = (refl, refl)

-- 1000, less 100 for each of the two days, and the values 10 and 20; no premium in the other hotel
long_trip_is_worth_830_and_home_0 : map (utility_of (record { arrive = 2; depart = 4; premium = 80; values = 10 ∷ 20 ∷ 30 ∷ [] })) (long_trip ∷ None ∷ []) ≡ 830 ∷ 0 ∷ []
long_trip_is_worth_830_and_home_0 = refl

-- no packages: a third hotel, no night, a sixth day, a ticket on the day of departure, two tickets on one night, and a fourth ticket type
packages_keep_to_days_nights_and_tickets : (map is_package (None ∷ long_trip ∷ Trip 1 2 3 (0 ∷ 0 ∷ 2 ∷ []) ∷ []) ≡ true ∷ true ∷ true ∷ [])
    × (map is_package (Trip 2 1 2 (0 ∷ 0 ∷ 0 ∷ []) ∷ Trip 0 2 2 (0 ∷ 0 ∷ 0 ∷ []) ∷ Trip 0 4 6 (0 ∷ 0 ∷ 0 ∷ []) ∷ []) ≡ replicate 3 false)
    × (map is_package (Trip 0 1 2 (2 ∷ 0 ∷ 0 ∷ []) ∷ Trip 0 1 3 (1 ∷ 1 ∷ 0 ∷ []) ∷ Trip 0 1 2 (0 ∷ 0 ∷ 0 ∷ 0 ∷ []) ∷ []) ≡ replicate 3 false)
packages_keep_to_days_nights_and_tickets = (refl, refl, refl)

-- one seat in on day 1, two seats out on day 2, two rooms of Shoreline Shanties on night 1, and one museum ticket owed for night 4
abbrev one_seat : AccountFile
one_seat = record {
  clients = replicate 8 (record { arrive = 1; depart = 2; premium = 50; values = 0 ∷ 0 ∷ 0 ∷ [] });
  holdings = pos 1 ∷ replicate 3 (pos 0) ++ (pos 2 ∷ replicate 3 (pos 0)) ++ (pos 2 ∷ replicate 7 (pos 0)) ++ (replicate 11 (pos 0) ++ negsuc 0 ∷ []);
}

-- the first clients travel, and the others stay at home
abbrev travelling : ℕ → List Package
travelling n = replicate n (Trip 0 1 2 (0 ∷ 0 ∷ 0 ∷ [])) ++ replicate (8 - n) None

-- the goods of which an allocation uses more than there is
abbrev lacking_for : List Package → List ℕ
lacking_for allocation = filter (λ good. nat_lt (stock_of one_seat.holdings good) (used_by allocation good)) (range_with_len 0 28)

second_traveller_has_no_seat : (lacking_for (travelling 1) ≡ []) × (lacking_for (travelling 2) ≡ 0 ∷ []) × (stock_of one_seat.holdings 27 ≡ 0)
second_traveller_has_no_seat = (refl, refl, refl)

one_traveller_is_worth_1000 : total_of one_seat.clients (travelling 1) ≡ 1000
one_traveller_is_worth_1000 = refl

-- an agent that holds these goods, eight of each being enough for all
abbrev holder : List ℤ → AccountFile
holder goods = record { clients = one_seat.clients; holdings = goods }

lacking_goods_or_seven_packages_are_not_feasible : (IsFeasible (holder (pos 0 ∷ replicate 27 (pos 8))) (travelling 1) → ⊥)
    × (IsFeasible (holder (replicate 27 (pos 8) ++ negsuc 0 ∷ [])) (Trip 0 4 5 (0 ∷ 0 ∷ 4 ∷ []) ∷ replicate 7 None) → ⊥)
    × (IsFeasible (holder (replicate 28 (pos 8))) (replicate 7 None) → ⊥)
lacking_goods_or_seven_packages_are_not_feasible = (
  (λ feasible. let first : 0 < 28 = omega arith in let below : 1 ≤ 0 = feasible.enough 0 first in omega (arith, below)),
  (λ feasible. let last : 27 < 28 = omega arith in let below : 1 ≤ 0 = feasible.enough 27 last in omega (arith, below)),
  λ feasible. let e : ◌≡◌ {A = ℕ} 7 8 = feasible.eight in omega (arith, e),
)
