-- The package of a number, by arithmetic; for private clauses.
use Rattle.std.specs.Prelude.{ℕ, ◌-◌, ◌%◌, ◌==◌, nat_lt, List, [], ◌∷◌, slice_index, slice_index_or, if◌then◌else◌}
use Rattle.packages.specs.declared.travel_packages.Package.{Package}
use Rattle.packages.specs.declared.travel_packages.Package.TheVariants.{None, Trip}
use Rattle.packages.specs.declared.listing.TheConstants.{NIGHTS}
use Rattle.packages.specs.Listing.{night_of}

-- the days of the trip, and the number of its first ticket choice
abbrev pub trip_at : ℕ → ℕ × ℕ × ℕ
trip_at left =
    if nat_lt left 4 then (1, 2, 0)
    else if nat_lt left 17 then (1, 3, 4)
    else if nat_lt left 51 then (1, 4, 17)
    else if nat_lt left 124 then (1, 5, 51)
    else if nat_lt left 128 then (2, 3, 124)
    else if nat_lt left 141 then (2, 4, 128)
    else if nat_lt left 175 then (2, 5, 141)
    else if nat_lt left 179 then (3, 4, 175)
    else if nat_lt left 192 then (3, 5, 179)
    else (4, 5, 192)

-- the three nights of a choice
unfoldable pub nights_at : ℕ → List ℕ
nights_at number = slice_index_or NIGHTS number []

unfoldable pub trip_package : ℕ → ℕ → Package
trip_package hotel left =
    let trip = trip_at left in
    let nights = nights_at (left - trip.2) in
    Trip hotel trip.0 trip.1 (night_of trip.0 (slice_index nights 0) ∷ night_of trip.0 (slice_index nights 1) ∷ night_of trip.0 (slice_index nights 2) ∷ [])

unfoldable pub package_at : ℕ → Package
package_at n = if n == 0 then None else trip_package (if nat_lt n 197 then 0 else 1) ((n - 1) % 196)
