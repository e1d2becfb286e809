-- What a package is, what it uses and what it is worth to a client, by the game description.
use Rattle.std.specs.Prelude.{ℕ, ◌+◌, ◌-◌, ◌*◌, ◌==◌, ◌&&◌, ◌||◌, not, Bool, true, List, [], ◌∷◌, length, nat_lt, nat_le, slice_index, IsTrue, if◌then◌else◌}
use Rattle.std.specs.List.{list_all, list_any}
use Rattle.std.specs.Int.{abs_diff}
use Rattle.tac_base.specs.Clients.{Preferences}
use Rattle.packages.specs.declared.travel_packages.Package.{Package}
use Rattle.packages.specs.declared.travel_packages.Package.TheVariants.{None, Trip}
use Rattle.packages.specs.Goods.{Thing, inbound, outbound, room, ticket, thing_of}

-- A stay has each night from the day of arrival to the day before departure.
abbrev pub is_in_stay : ℕ → ℕ → ℕ → Bool
is_in_stay arrive depart night = nat_le arrive night && nat_lt night depart

-- The night of a type of ticket is 0, which means that there is none, or a night of the stay.
abbrev pub is_night : ℕ → ℕ → ℕ → Bool
is_night arrive depart night = night == 0 || is_in_stay arrive depart night

-- No two types of ticket have the same night; 0 is no night.
abbrev pub are_apart : List ℕ → Bool
are_apart [] = true
are_apart (night ∷ nights) = (night == 0 || not (list_any (λ n. n == night) nights)) && are_apart nights

-- A package is empty, or a trip. A trip has a hotel; a day of arrival, 1 to 4, and a later day of departure, 2 to 5, between which the
-- client stays in that hotel every night; and for each type of ticket at most one night of the stay. No two types have the same night.
-- Row: packages_keep_to_days_nights_and_tickets (worked_rows/proofs/Trips.antt)
abbrev pub is_package : Package → Bool
is_package None = true
is_package (Trip hotel arrive depart nights) =
    nat_lt hotel 2 && nat_le 1 arrive && nat_lt arrive depart && nat_le depart 5 && length nights == 3
    && list_all (is_night arrive depart) nights && are_apart nights

-- the same as a statement
abbrev pub IsPackage : Package → Type 0
IsPackage p = IsTrue (is_package p)

-- 1 if the condition holds, and 0 otherwise
abbrev pub one_if : Bool → ℕ
one_if b = if b then 1 else 0

-- A trip uses one inbound seat of its first day, one outbound seat of its last day, one room of its hotel for each night of the stay,
-- and one ticket for each type that has a night. No good is a ticket of night 0, so a type without a night uses none.
abbrev pub used : Package → Thing → ℕ
used None thing = 0
used (Trip hotel arrive depart nights) (inbound day) = one_if (day == arrive)
used (Trip hotel arrive depart nights) (outbound day) = one_if (day == depart)
used (Trip hotel arrive depart nights) (room other night) = one_if (other == hotel && is_in_stay arrive depart night)
used (Trip hotel arrive depart nights) (ticket kind night) = one_if (slice_index nights kind == night)

-- how many units of a good a package uses
-- Row: trips_use_four_and_eight_goods (worked_rows/proofs/Trips.antt)
abbrev pub use_of : Package → ℕ → ℕ
use_of p good = used p (thing_of good)

-- what a type of ticket adds to a trip: the client's value for it if it has a night
abbrev pub fun_of : List ℕ → List ℕ → ℕ → ℕ
fun_of values nights kind = if slice_index nights kind == 0 then 0 else slice_index values kind

-- The empty package, with which the client stays at home, is worth 0 dollars. A trip is worth 1000 dollars, minus 100 for each day by
-- which the arrival and the departure differ from the preferred ones, plus the premium in Tampa Towers, plus the value of each type of
-- ticket that has a night. The subtraction never cuts off at 0: each of the two days is off by at most 3.
-- Row: museum_trip (worked_rows/proofs/Packages.antt)
abbrev pub utility_of : Preferences → Package → ℕ
utility_of client None = 0
utility_of client (Trip hotel arrive depart nights) =
    1000 - 100 * (abs_diff arrive client.arrive + abs_diff depart client.depart) + (if hotel == 1 then client.premium else 0)
    + fun_of client.values nights 0 + fun_of client.values nights 1 + fun_of client.values nights 2
