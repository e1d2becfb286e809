-- Every package is in the list.
use Rattle.std.proofs.Common.{◌≡◌, ℕ, ◌<◌, ◌&&◌, Bool, true, false, List, [], ◌∷◌, Contains, zero, suc, length, get_or, eqb, bytes_eq, IfSome, IsSome, IsTrue, is_some, inl, inr, not, Some, None as Nothing, Option, refl, sym, ap, subst, ◌∙◌, arith, filter, slice_get}
use Rattle.std.proofs.lemmas.List.FromFn.{length-range_with_len, get_or-range_with_len}
use Rattle.std.proofs.lemmas.List.Elements.{All-contains}
use Rattle.std.proofs.lemmas.List.Sums.{AllPass-from_list_all}
use Rattle.std.proofs.lemmas.List.Folds.{Any-from_list_any, list_any_at}
use Rattle.std.proofs.lemmas.Bool.{and_parts, false≢true, cases_lt}
use Rattle.std.proofs.lemmas.Bool.Decides.{nat_tests}
use Rattle.std.proofs.lemmas.Slice.Eq.{bytes_eq-Decides}
use Rattle.std.specs.List.{list_all, list_any, range_with_len}
use Rattle.packages.specs.declared.travel_packages.Package.{Package}
use Rattle.packages.specs.declared.travel_packages.Package.TheVariants.{None, Trip}
use Rattle.packages.specs.{is_package, is_night, packages}
use Rattle.packages.proofs.Decoded.{length-packages, all_packages, package_none, package_past}
use Rattle.std.proofs.lemmas.Option.{get_or_from_slice_get, slice_get-get_or, slice_get_within}

-- a test that passes at each number below n passes at k
pub at_each : (p : ℕ → Bool) (n k : ℕ) → list_all p (range_with_len 0 n) ≡ true → k < n → p k ≡ true
at_each p n k h lt =
    let all = AllPass-from_list_all p (range_with_len 0 n) h in
    let here : get_or (range_with_len 0 n) k 0 ≡ k = get_or-range_with_len 0 n k 0 lt ∙ omega arith in
    ap p (sym here) ∙ all k 0 (omega (arith, length-range_with_len 0 n))

abbrev same : Package → Package → Bool
same None None = true
same None (Trip hotel arrive depart nights) = false
same (Trip hotel arrive depart nights) None = false
same (Trip hotel arrive depart nights) (Trip hotel' arrive' depart' nights') =
    eqb hotel hotel' && eqb arrive arrive' && eqb depart depart' && bytes_eq nights nights'

same_is : (p q : Package) → same p q ≡ true → q ≡ p
same_is None None h = refl
same_is None (Trip hotel arrive depart nights) h = cc
same_is (Trip hotel arrive depart nights) None h = cc
same_is (Trip hotel arrive depart nights) (Trip hotel' arrive' depart' nights') h =
    let parts = and_parts (eqb hotel hotel' && eqb arrive arrive' && eqb depart depart') (bytes_eq nights nights') h in
    let nights_are : nights ≡ nights' = (bytes_eq-Decides nights nights').0 parts.1 in
    let hotel_is : hotel ≡ hotel' = grind (arith, nat_tests, parts.0) in
    let arrive_is : arrive ≡ arrive' = grind (arith, nat_tests, parts.0) in
    let depart_is : depart ≡ depart' = grind (arith, nat_tests, parts.0) in
    cc

-- if it is a package, it is in the list
unfoldable found : Package → Bool
found p = list_all (λ q. list_any (same q) packages) (filter is_package (p ∷ []))

trips_found : list_all (λ hotel. list_all (λ arrive. list_all (λ depart. list_all (λ x. list_all (λ y. list_all (λ z. found (Trip hotel arrive depart (x ∷ y ∷ z ∷ [])))
    (range_with_len 0 5)) (range_with_len 0 5)) (range_with_len 0 5)) (range_with_len 0 6)) (range_with_len 0 5)) (range_with_len 0 2) ≡ true
unfolding found packages
trips_found = refl

-- what a package's test says
pub record IsFound (hotel arrive depart : ℕ) (nights : List ℕ) : Type 0 where
  pub hotel_in : hotel < 2
  pub arrive_in : arrive < 5
  pub depart_in : depart < 6
  pub three : length nights ≡ 3
  pub stays : list_all (is_night arrive depart) nights ≡ true

pub ranges_of : (hotel arrive depart : ℕ) (nights : List ℕ) → is_package (Trip hotel arrive depart nights) ≡ true → IsFound hotel arrive depart nights
ranges_of hotel arrive depart nights h = record {
  hotel_in = grind (arith, nat_tests);
  arrive_in = grind (arith, nat_tests);
  depart_in = grind (arith, nat_tests);
  three = grind (arith, nat_tests);
  stays = grind (arith, nat_tests);
}

night_below : (arrive depart night : ℕ) → depart < 6 → is_night arrive depart night ≡ true → night < 5
night_below arrive depart night lt h = grind (arith, nat_tests)

found_at : (p : Package) → is_package p ≡ true → found p ≡ true → Contains packages p
unfolding found
found_at p is h =
    let filtered : filter is_package (p ∷ []) ≡ p ∷ [] = rw is in
    let one : list_any (same p) packages ≡ true = (and_parts (list_any (same p) packages) true (ap (list_all (λ q. list_any (same q) packages)) (sym filtered) ∙ h)).0 in
    let any = Any-from_list_any (same p) packages one in
    let is_p : any.1 ≡ p = same_is p any.1 any.4 in
    (any.0, any.2, subst (λ q. get_or packages any.0 q ≡ q) is_p any.3)

pub night_ranges : (arrive depart : ℕ) (nights : List ℕ) (k : ℕ) → depart < 6 → list_all (is_night arrive depart) nights ≡ true → get_or nights k 0 < 5
night_ranges arrive depart [] k lt h = omega arith
night_ranges arrive depart (night ∷ nights) zero lt h = night_below arrive depart night lt (and_parts (is_night arrive depart night) (list_all (is_night arrive depart) nights) h).0
night_ranges arrive depart (night ∷ nights) (suc k) lt h = night_ranges arrive depart nights k lt (and_parts (is_night arrive depart night) (list_all (is_night arrive depart) nights) h).1

pub three_of : (nights : List ℕ) → length nights ≡ 3 → nights ≡ get_or nights 0 0 ∷ get_or nights 1 0 ∷ get_or nights 2 0 ∷ []
three_of [] h = cc
three_of (x ∷ []) h = cc
three_of (x ∷ y ∷ []) h = cc
three_of (x ∷ y ∷ z ∷ []) h = refl
three_of (x ∷ y ∷ z ∷ w ∷ nights) h = absurd (omega (arith, h))

trip_found : (hotel arrive depart : ℕ) (nights : List ℕ) → IsFound hotel arrive depart nights → found (Trip hotel arrive depart nights) ≡ true
trip_found hotel arrive depart nights is =
    let x = get_or nights 0 0 in
    let y = get_or nights 1 0 in
    let z = get_or nights 2 0 in
    let at_hotel = at_each (λ hotel. list_all (λ arrive. list_all (λ depart. list_all (λ x. list_all (λ y. list_all (λ z. found (Trip hotel arrive depart (x ∷ y ∷ z ∷ [])))
    (range_with_len 0 5)) (range_with_len 0 5)) (range_with_len 0 5)) (range_with_len 0 6)) (range_with_len 0 5)) 2 hotel trips_found is.hotel_in in
    let at_arrive = at_each (λ arrive. list_all (λ depart. list_all (λ x. list_all (λ y. list_all (λ z. found (Trip hotel arrive depart (x ∷ y ∷ z ∷ [])))
    (range_with_len 0 5)) (range_with_len 0 5)) (range_with_len 0 5)) (range_with_len 0 6)) 5 arrive at_hotel is.arrive_in in
    let at_depart = at_each (λ depart. list_all (λ x. list_all (λ y. list_all (λ z. found (Trip hotel arrive depart (x ∷ y ∷ z ∷ [])))
    (range_with_len 0 5)) (range_with_len 0 5)) (range_with_len 0 5)) 6 depart at_arrive is.depart_in in
    let at_x = at_each (λ x. list_all (λ y. list_all (λ z. found (Trip hotel arrive depart (x ∷ y ∷ z ∷ [])))
    (range_with_len 0 5)) (range_with_len 0 5)) 5 x at_depart (night_ranges arrive depart nights 0 is.depart_in is.stays) in
    let at_y = at_each (λ y. list_all (λ z. found (Trip hotel arrive depart (x ∷ y ∷ z ∷ [])))
    (range_with_len 0 5)) 5 y at_x (night_ranges arrive depart nights 1 is.depart_in is.stays) in
    let at_z = at_each (λ z. found (Trip hotel arrive depart (x ∷ y ∷ z ∷ []))) 5 z at_y (night_ranges arrive depart nights 2 is.depart_in is.stays) in
    ap (λ nights. found (Trip hotel arrive depart nights)) (three_of nights is.three) ∙ at_z

-- a package is in the list
pub package_found : (p : Package) → is_package p ≡ true → Contains packages p
package_found None h = (0, omega (arith, length-packages), get_or_from_slice_get packages 0 None None package_none)
package_found (Trip hotel arrive depart nights) h = found_at (Trip hotel arrive depart nights) h (trip_found hotel arrive depart nights (ranges_of hotel arrive depart nights h))

-- and nothing else does
pub found_package : (p : Package) → Contains packages p → is_package p ≡ true
found_package p h = All-contains (λ q. is_package q ≡ true) packages p (AllPass-from_list_all is_package packages all_packages) h

same_self : (p : Package) → same p p ≡ true
same_self None = refl
same_self (Trip hotel arrive depart nights) =
    let nights_are : bytes_eq nights nights ≡ true = (bytes_eq-Decides nights nights).1 refl in
    grind (arith, nat_tests, nights_are)

-- no package of the list equals a later one
abbrev apart : List Package → Bool
apart [] = true
apart (p ∷ ps) = not (list_any (same p) ps) && apart ps

all_apart : apart packages ≡ true
unfolding packages
all_apart = refl

apart_at : (ps : List Package) (k m : ℕ) (d : Package) → apart ps ≡ true → k < m → m < length ps → get_or ps k d ≡ get_or ps m d → ⊥
apart_at [] k m d h lt within is = omega arith
apart_at (p ∷ ps) k zero d h lt within is = omega arith
apart_at (p ∷ ps) zero (suc m) d h lt within is =
    let any : list_any (same p) ps ≡ true = list_any_at (same p) ps m d (omega (arith, within)) (ap (same p) (sym is) ∙ same_self p) in
    let none : not (list_any (same p) ps) ≡ true = (and_parts (not (list_any (same p) ps)) (apart ps) h).0 in
    false≢true (ap not (sym any) ∙ none)
apart_at (p ∷ ps) (suc k) (suc m) d h lt within is = apart_at ps k m d (and_parts (not (list_any (same p) ps)) (apart ps) h).1 (omega (arith, lt)) (omega (arith, within)) is

pub package_once : (k m : ℕ) → k < m → m < 393 → slice_get packages k ≡ slice_get packages m → ⊥
package_once k m lt within is =
    let at_k = slice_get-get_or packages k None (omega (arith, length-packages)) in
    let at_m = slice_get-get_or packages m None (omega (arith, length-packages)) in
    let same_items : get_or packages k None ≡ get_or packages m None = cc in
    apart_at packages k m None all_apart lt (omega (arith, length-packages)) same_items

-- what stands at a number
pub package_lawful : (n : ℕ) (p : Package) → slice_get packages n ≡ Some p → is_package p ≡ true
package_lawful n p h = found_package p (n, slice_get_within packages n p h, get_or_from_slice_get packages n p p h)

pub lawful_at : (n : ℕ) (r : Option Package) → r ≡ slice_get packages n → IfSome r (λ p. IsTrue (is_package p))
lawful_at n Nothing h = tt
lawful_at n (Some p) h = package_lawful n p (sym h)

pub some_at : (n : ℕ) (r : Option Package) → r ≡ slice_get packages n → (IsSome r → n < 393) × (n < 393 → IsSome r)
some_at n r h = elim (cases_lt n 393) [
  | inl lt ↦ (λ _. lt, λ _. ap is_some (h ∙ slice_get-get_or packages n None (omega (arith, length-packages))))
  | inr ge ↦ (λ s. absurd (false≢true (sym (ap is_some (h ∙ package_past n ge)) ∙ s)), λ lt. absurd (omega arith))
]
