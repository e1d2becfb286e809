-- The list of all packages, computed.
use Rattle.std.proofs.Common.{◌≡◌, ℕ, zero, suc, ◌-◌, ◌%◌, ◌<◌, ◌≤◌, true, List, [], ◌∷◌, Some, None, option_map, false, length, get_or, map, eqb, ltb, cond, refl, sym, ap, ◌∙◌, arith, slice_get}
use Rattle.std.proofs.lemmas.List.FromFn.{length-range_with_len, get_or-range_with_len}
use Rattle.std.proofs.lemmas.Option.{slice_get-map, slice_get-get_or, slice_get_past}
use Rattle.std.proofs.lemmas.Bool.Decides.{nat_tests}
use Rattle.std.specs.List.{list_all, range_with_len}
use Rattle.std.proofs.lemmas.Bool.{and_parts}
use Rattle.packages.specs.declared.travel_packages.Package.TheVariants.{None as None', Trip}
use Rattle.packages.specs.declared.listing.TheConstants.{NIGHTS}
use Rattle.packages.specs.{is_package, packages, night_of}
use Rattle.packages.specs.Decoding.{package_at, trip_package, trip_at, nights_at}

pub length-packages : length packages ≡ 393
unfolding packages
length-packages = refl

pub all_packages : list_all is_package packages ≡ true
unfolding packages
all_packages = refl

-- each package stands at its number
pub packages_are : packages ≡ map package_at (range_with_len 0 393)
unfolding packages package_at trip_package nights_at
packages_are = refl

pub small_nights : list_all (λ nights. list_all (λ night. ltb night 5) nights) NIGHTS ≡ true
small_nights = refl

pub package_is : (n : ℕ) → n < 393 → slice_get packages n ≡ Some (package_at n)
package_is n h = ap (λ ps. slice_get ps n) packages_are ∙ slice_get-map package_at (range_with_len 0 393) n ∙ ap (option_map package_at) (slice_get-get_or (range_with_len 0 393) n 0 (omega (arith, length-range_with_len 0 393)) ∙ ap Some (get_or-range_with_len 0 393 n 0 h ∙ omega arith))

pub package_past : (n : ℕ) → 393 ≤ n → slice_get packages n ≡ None
package_past n h = slice_get_past packages n (omega (arith, length-packages))

pub package_none : slice_get packages 0 ≡ Some None'
unfolding package_at
package_none = package_is 0 (omega arith)

pub package_trip : (n hotel : ℕ) (trip : ℕ × ℕ × ℕ) (nights : List ℕ) (x y z : ℕ) → 0 < n → n < 393 → hotel ≡ cond (ltb n 197) 0 1 → trip ≡ trip_at ((n - 1) % 196) → nights ≡ nights_at ((n - 1) % 196 - trip.2)
    → x ≡ night_of trip.0 (get_or nights 0 0) → y ≡ night_of trip.0 (get_or nights 1 0) → z ≡ night_of trip.0 (get_or nights 2 0)
    → Some (Trip hotel trip.0 trip.1 (x ∷ y ∷ z ∷ [])) ≡ slice_get packages n
unfolding package_at trip_package
package_trip n hotel trip nights x y z some few is_hotel is_trip is_nights is_x is_y is_z =
    let other : eqb n 0 ≡ false = grind (arith, nat_tests) in
    sym (package_is n few ∙ rw (other, ← is_trip, ← is_hotel, is_x, is_y, is_z, is_nights))

small_row : (row : List ℕ) → list_all (λ night. ltb night 5) row ≡ true → (k : ℕ) → get_or row k 0 < 5
small_row [] h k = omega arith
small_row (night ∷ row) h zero = grind (arith, nat_tests)
small_row (night ∷ row) h (suc k) = small_row row (and_parts (ltb night 5) (list_all (λ n. ltb n 5) row) h).1 k

small_in : (rows : List (List ℕ)) → list_all (λ row. list_all (λ night. ltb night 5) row) rows ≡ true → (i k : ℕ) → get_or (get_or rows i []) k 0 < 5
small_in [] h i k = omega arith
small_in (row ∷ rows) h zero k = small_row row (and_parts (list_all (λ night. ltb night 5) row) (list_all (λ row. list_all (λ night. ltb night 5) row) rows) h).0 k
small_in (row ∷ rows) h (suc i) k = small_in rows (and_parts (list_all (λ night. ltb night 5) row) (list_all (λ row. list_all (λ night. ltb night 5) row) rows) h).1 i k

-- a night of a ticket choice is at most 4
pub night_small : (nights : List ℕ) (number k : ℕ) → nights ≡ nights_at number → get_or nights k 0 < 5
unfolding nights_at
night_small nights number k is = rw is (small_in NIGHTS small_nights number k)
