-- All packages, each once.
use Rattle.std.specs.Prelude.{ℕ, zero, suc, ◌+◌, ◌-◌, ◌==◌, ◌&&◌, List, [], ◌∷◌, ◌++◌, map, max, if◌then◌else◌, flat_map, filter, fold}
use Rattle.packages.specs.declared.travel_packages.Package.{Package}
use Rattle.packages.specs.declared.travel_packages.Package.TheVariants.{None, Trip}
use Rattle.packages.specs.Packages.{are_apart}

-- the days of arrival and departure, in the order of their ranks
abbrev pub trips : List (ℕ × ℕ)
trips = (1, 2) ∷ (1, 3) ∷ (1, 4) ∷ (1, 5) ∷ (2, 3) ∷ (2, 4) ∷ (2, 5) ∷ (3, 4) ∷ (3, 5) ∷ (4, 5) ∷ []

-- three numbers of 0..4
abbrev pub triples : List (List ℕ)
triples =
    let numbers : List ℕ = 0 ∷ 1 ∷ 2 ∷ 3 ∷ 4 ∷ [] in
    flat_map (λ a. flat_map (λ b. map (λ c. a ∷ b ∷ c ∷ []) numbers) numbers) numbers

-- the possible nights of the three tickets in a stay whose first night is 1, if the latest is given
abbrev pub nights_to : ℕ → List (List ℕ)
nights_to latest = filter (λ nights. are_apart nights && fold max 0 nights == latest) triples

-- the numbers from 0 to n
abbrev pub numbers_to : ℕ → List ℕ
numbers_to zero = 0 ∷ []
numbers_to (suc n) = numbers_to n ++ suc n ∷ []

-- the possible nights of the tickets in a stay of this many nights
abbrev pub nights_within : ℕ → List (List ℕ)
nights_within length = flat_map nights_to (numbers_to length)

-- a night of a stay that begins on a day, where the day's own night counts as 1; 0 is no night
abbrev pub night_of : ℕ → ℕ → ℕ
night_of arrive night = if night == 0 then 0 else arrive + night - 1

-- the trips of a hotel with these days of arrival and departure
abbrev pub packages_of : ℕ → ℕ × ℕ → List Package
packages_of hotel (arrive, depart) = map (λ nights. Trip hotel arrive depart (map (night_of arrive) nights)) (nights_within (depart - arrive))

-- every package, once
unfoldable pub packages : List Package
packages = None ∷ flat_map (λ hotel. flat_map (packages_of hotel) trips) (0 ∷ 1 ∷ [])
