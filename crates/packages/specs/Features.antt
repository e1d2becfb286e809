-- The four features of a package, and the packages that a fixed value of a feature leaves to a client.
use Rattle.std.specs.Prelude.{ℕ, zero, suc, ◌+◌, ◌-◌, ◌*◌, ◌==◌, ◌&&◌, ◌||◌, not, slice_index, if◌then◌else◌}
use Rattle.packages.specs.declared.travel_packages.Package.{Package}
use Rattle.packages.specs.declared.travel_packages.Package.TheVariants.{None, Trip}
use Rattle.packages.specs.Bounds.{Narrowing}

-- the rank of a trip in the order (1,2), (1,3), (1,4), (1,5), (2,3), (2,4), (2,5), (3,4), (3,5), (4,5)
abbrev pub rank_of : ℕ → ℕ → ℕ
rank_of arrive depart = (if arrive == 1 then 0 else if arrive == 2 then 4 else if arrive == 3 then 7 else 9) + (depart - arrive - 1)

-- feature 0 is the trip, features 1 to 3 are the nights of the tickets
abbrev pub feature_of : ℕ → Package → ℕ
feature_of feature None = 0
feature_of zero (Trip hotel arrive depart nights) = 1 + 10 * hotel + rank_of arrive depart
feature_of (suc kind) (Trip hotel arrive depart nights) = slice_index nights kind

-- how many values a feature has
abbrev pub values_of : ℕ → ℕ
values_of feature = if feature == 0 then 21 else 5

-- only the packages with the value are left to the client; nothing changes for the others
abbrev pub narrowed : Narrowing → ℕ → ℕ → ℕ → Narrowing
narrowed left client feature value number p = left number p && (not (number == client) || feature_of feature p == value)
