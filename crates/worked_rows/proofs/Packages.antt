-- A trip, the numbers of goods, trips and packages, and a bound by prices.
use Rattle.std.proofs.Common.{◌≡◌, ℕ, true, [], ◌∷◌, ◌++◌, pos, Some, length, map, refl, replicate, flat_map}
use Rattle.std.specs.List.{range_with_len}
use Rattle.tac_base.specs.Clients.{Preferences}
use Rattle.game_text.specs.Accounts.{AccountFile}
use Rattle.packages.specs.declared.travel_packages.Package.TheVariants.{Trip}
use Rattle.packages.specs.Goods.{good_number, thing_of, inbound, outbound, room, ticket}
use Rattle.packages.specs.Packages.{utility_of}
use Rattle.packages.specs.Listing.{trips, packages, packages_of}
use Rattle.packages.specs.Features.{rank_of}
use Rattle.packages.specs.Bounds.{sum_below, leaf_bound}

-- a day late, in Tampa Towers, with the museum
museum_trip : utility_of (record { arrive = 1; depart = 3; premium = 100; values = 0 ∷ 0 ∷ 200 ∷ [] }) (Trip 1 2 3 (0 ∷ 0 ∷ 2 ∷ [])) ≡ 1200
museum_trip = refl

-- the goods at both ends of each kind of seat, of each hotel and of each type of ticket
goods_are_seats_rooms_and_tickets : (map thing_of (0 ∷ 3 ∷ 4 ∷ 7 ∷ []) ≡ inbound 1 ∷ inbound 4 ∷ outbound 2 ∷ outbound 5 ∷ [])
    × (map thing_of (8 ∷ 11 ∷ 12 ∷ 15 ∷ []) ≡ room 0 1 ∷ room 0 4 ∷ room 1 1 ∷ room 1 4 ∷ [])
    × (map thing_of (16 ∷ 19 ∷ 20 ∷ 23 ∷ 24 ∷ 27 ∷ []) ≡ ticket 0 1 ∷ ticket 0 4 ∷ ticket 1 1 ∷ ticket 1 4 ∷ ticket 2 1 ∷ ticket 2 4 ∷ [])
goods_are_seats_rooms_and_tickets = (refl, refl, refl)

-- the trips stand in the order of their ranks
goods_and_trips_have_their_numbers : (map (λ good. good_number (thing_of good)) (range_with_len 0 28) ≡ range_with_len 0 28)
    × (map (λ trip. rank_of trip.0 trip.1) trips ≡ range_with_len 0 10)
    × (length (flat_map (packages_of 1) trips) ≡ 196)
goods_and_trips_have_their_numbers = (refl, refl, refl)

-- ---- one seat in and one ticket that two clients want

fan : ℕ → Preferences
fan value = record { arrive = 1; depart = 2; premium = 50; values = value ∷ 0 ∷ 0 ∷ [] }

one_seat : AccountFile
one_seat = record {
  clients = fan 100 ∷ fan 150 ∷ replicate 6 (fan 0);
  holdings = pos 1 ∷ replicate 3 (pos 0) ++ (pos 2 ∷ replicate 3 (pos 0)) ++ (pos 2 ∷ replicate 7 (pos 0)) ++ (pos 1 ∷ replicate 11 (pos 0));
}

-- prices of the seat in and the ticket bound all allocations by what the best is worth; if nothing has a price, each client takes
-- what it likes best
prices_bound_all_allocations : (leaf_bound one_seat (λ client p. true) (1000 ∷ replicate 3 1750 ++ (0 ∷ replicate 3 1750) ++ (0 ∷ replicate 7 1750) ++ (150 ∷ replicate 11 1750)) ≡ Some (pos 1150))
    × (leaf_bound one_seat (λ client p. true) (replicate 28 0) ≡ Some (pos 8650))
    × (leaf_bound one_seat (λ client p. true) (50 ∷ replicate 27 0) ≡ Some (pos 8300))
unfolding fan one_seat packages sum_below
prices_bound_all_allocations = (refl, refl, refl)
