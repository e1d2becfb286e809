-- What one more fixed feature does to a choice.
use Rattle.std.proofs.Common.{◌≡◌, ◌≢◌, ℕ, zero, suc, ◌+◌, ◌<◌, ◌≤◌, ◌&&◌, Bool, true, false, cond, List, [], ◌∷◌, length, get_or, Option, Some, None, is_some, set, eqb, inl, inr, refl, sym, ap, subst, length-set, arith, All, count_by, get_or-set_same, get_or-set_other}
use Rattle.std.proofs.Math.Bool.{and_comm}
use Rattle.std.proofs.lemmas.Bool.{cases_eq}
use Rattle.std.proofs.lemmas.Bool.Decides.{nat_tests}
use Rattle.std.proofs.lemmas.List.{get_or_default}
use Rattle.std.proofs.lemmas.List.Sums.{sum_by-set, sum_by-le, count_by-le-length}
use Rattle.dual_bound.specs.{Package, feature_of, narrowed, fixed_at, fits, has_fixed, chosen, fixed_count, with_fixed, IsChoice}

second : (a x y z : Bool) → (a && (x && (y && z))) ≡ ((a && (true && (y && z))) && x)
second true x y z = and_comm x (y && z)
second false x y z = refl

third : (a b x z : Bool) → (a && (b && (x && z))) ≡ ((a && (b && (true && z))) && x)
third true true x z = and_comm x z
third true false x z = refl
third false b x z = refl

fourth : (a b c x : Bool) → (a && (b && (c && x))) ≡ ((a && (b && (c && true))) && x)
fourth true true true x = refl
fourth true true false x = refl
fourth true false c x = refl
fourth false b c x = refl

-- a client's row with one more value
row_with : (row : List (Option ℕ)) (feature value : ℕ) (p : Package) → length row ≡ 4 → feature < 4 → get_or row feature None ≡ None
    → has_fixed (set row feature (Some value)) p ≡ (has_fixed row p && eqb (feature_of feature p) value)
unfolding has_fixed
row_with [] feature value p four lt free = absurd (omega (arith, four))
row_with (a ∷ []) feature value p four lt free = absurd (omega (arith, four))
row_with (a ∷ b ∷ []) feature value p four lt free = absurd (omega (arith, four))
row_with (a ∷ b ∷ c ∷ []) feature value p four lt free = absurd (omega (arith, four))
row_with (a ∷ b ∷ c ∷ d ∷ e ∷ rest) feature value p four lt free = absurd (omega (arith, four))
row_with (a ∷ b ∷ c ∷ d ∷ []) zero value p four lt free = rw free (and_comm (eqb (feature_of 0 p) value) (fits b (feature_of 1 p) && (fits c (feature_of 2 p) && fits d (feature_of 3 p))))
row_with (a ∷ b ∷ c ∷ d ∷ []) (suc zero) value p four lt free = rw free (second (fits a (feature_of 0 p)) (eqb (feature_of 1 p) value) (fits c (feature_of 2 p)) (fits d (feature_of 3 p)))
row_with (a ∷ b ∷ c ∷ d ∷ []) (suc (suc zero)) value p four lt free = rw free (third (fits a (feature_of 0 p)) (fits b (feature_of 1 p)) (eqb (feature_of 2 p) value) (fits d (feature_of 3 p)))
row_with (a ∷ b ∷ c ∷ d ∷ []) (suc (suc (suc zero))) value p four lt free = rw free (fourth (fits a (feature_of 0 p)) (fits b (feature_of 1 p)) (fits c (feature_of 2 p)) (eqb (feature_of 3 p) value))
row_with (a ∷ b ∷ c ∷ d ∷ []) (suc (suc (suc (suc n)))) value p four lt free = absurd (omega (arith, lt))

and_true : (b : Bool) → b ≡ (b && true)
and_true true = refl
and_true false = refl

-- what is left at one client
chosen_at : (choice : List (List (Option ℕ))) (client feature value k : ℕ) (p : Package) (same : Bool) → eqb k client ≡ same → IsChoice choice → client < 8 → feature < 4 → fixed_at choice client feature ≡ None
    → chosen (with_fixed choice client feature value) k p ≡ narrowed (chosen choice) client feature value k p
chosen_at choice client feature value k p true is h client_in feature_in free =
    let k_is : k ≡ client = grind (arith, nat_tests) in
    let row = get_or choice client [] in
    let at : get_or (set choice client (set row feature (Some value))) client [] ≡ set row feature (Some value) = get_or-set_same choice client (set row feature (Some value)) [] (omega (arith, h.eight)) in
    rw (is, k_is, at) (row_with row feature value p (h.four client client_in) feature_in free)
chosen_at choice client feature value k p false is h client_in feature_in free =
    let other : k ≢ client = λ same. grind (arith, nat_tests, is, same) in
    let row = get_or choice client [] in
    let at : get_or (set choice client (set row feature (Some value))) k [] ≡ get_or choice k [] = get_or-set_other choice client k (set row feature (Some value)) [] other in
    rw (is, at) (and_true (chosen choice k p))

-- one more fixed feature narrows what is left by its value
pub chosen_with : (choice : List (List (Option ℕ))) (client feature value : ℕ) → IsChoice choice → client < 8 → feature < 4 → fixed_at choice client feature ≡ None
    → chosen (with_fixed choice client feature value) ≡ narrowed (chosen choice) client feature value
chosen_with choice client feature value h client_in feature_in free =
    let pointwise : (k : ℕ) (p : Package) → chosen (with_fixed choice client feature value) k p ≡ narrowed (chosen choice) client feature value k p =
    λ k p. chosen_at choice client feature value k p (eqb k client) refl h client_in feature_in free in
    λ i k p. pointwise k p i

-- one more feature is fixed
pub count_with : (choice : List (List (Option ℕ))) (client feature value : ℕ) → IsChoice choice → client < 8 → feature < 4 → fixed_at choice client feature ≡ None
    → fixed_count (with_fixed choice client feature value) ≡ fixed_count choice + 1
count_with choice client feature value h client_in feature_in free =
    let row = get_or choice client [] in
    let count : List (Option ℕ) → ℕ = λ r. count_by is_some r in
    let outer = sum_by-set count choice client (set row feature (Some value)) [] (omega (arith, h.eight)) in
    let inner = sum_by-set (λ (o : Option ℕ). cond (is_some o) 1 0) row feature (Some value) None (omega (arith, h.four client client_in)) in
    let none : is_some (get_or row feature None) ≡ false = ap is_some free in
    let shown = rw none at inner in
    let step : count (set row feature (Some value)) ≡ count row + 1 = omega (arith, shown) in
    omega (arith, outer, step)

rows_short : (rows : List (List (Option ℕ))) → ((k : ℕ) → k < length rows → length (get_or rows k []) ≡ 4) → All (λ r. count_by is_some r ≤ 4) rows
rows_short rows four = λ k d lt. omega (arith, count_by-le-length is_some (get_or rows k d), ap length (get_or_default rows k d [] lt), four k lt)

-- where a feature is not fixed, fewer than 32 are
pub count_free : (choice : List (List (Option ℕ))) (client feature : ℕ) → IsChoice choice → client < 8 → feature < 4 → fixed_at choice client feature ≡ None → fixed_count choice < 32
count_free choice client feature h client_in feature_in free =
    let row = get_or choice client [] in
    let row' : List (Option ℕ) = set row feature (Some 0) in
    let four : (k : ℕ) → k < length (with_fixed choice client feature 0) → length (get_or (with_fixed choice client feature 0) k []) ≡ 4 = λ k lt. elim (cases_eq k client) [
      | inl same ↦
          let at : get_or (set choice client row') k [] ≡ row' = subst (λ j. get_or (set choice client row') j [] ≡ row') (sym same) (get_or-set_same choice client row' [] (omega (arith, h.eight))) in
          omega (arith, ap length at, length-set row feature (Some 0), h.four client client_in)
      | inr other ↦
          omega (arith, ap length (get_or-set_other choice client k row' [] other), h.four k (omega (arith, length-set choice client row', h.eight, lt)))
    ] in
    let bound = sum_by-le (λ r. count_by is_some r) 4 (with_fixed choice client feature 0) (rows_short (with_fixed choice client feature 0) four) in
    omega (arith, bound, length-set choice client row', h.eight, count_with choice client feature 0 h client_in feature_in free)

fits_is : (o : Option ℕ) (value x : ℕ) → o ≡ Some value → fits o x ≡ true → x ≡ value
fits_is None value x is h = cc
fits_is (Some fixed) value x is h =
    let same : fixed ≡ value = cc in
    grind (arith, nat_tests)

all_four : (a b c d : Bool) → (a && (b && (c && d))) ≡ true → (a ≡ true) × (b ≡ true) × (c ≡ true) × (d ≡ true)
all_four true true true true h = (refl, refl, refl, refl)
all_four true true true false h = cc
all_four true true false d h = cc
all_four true false c d h = cc
all_four false b c d h = cc

-- a package that has a client's fixed values has each
pub fixed_fits : (row : List (Option ℕ)) (feature value : ℕ) (p : Package) → feature < 4 → get_or row feature None ≡ Some value → has_fixed row p ≡ true → feature_of feature p ≡ value
unfolding has_fixed
fixed_fits row zero value p lt is h = fits_is (get_or row 0 None) value (feature_of 0 p) is (all_four (fits (get_or row 0 None) (feature_of 0 p)) (fits (get_or row 1 None) (feature_of 1 p)) (fits (get_or row 2 None) (feature_of 2 p)) (fits (get_or row 3 None) (feature_of 3 p)) h).0
fixed_fits row (suc zero) value p lt is h = fits_is (get_or row 1 None) value (feature_of 1 p) is (all_four (fits (get_or row 0 None) (feature_of 0 p)) (fits (get_or row 1 None) (feature_of 1 p)) (fits (get_or row 2 None) (feature_of 2 p)) (fits (get_or row 3 None) (feature_of 3 p)) h).1
fixed_fits row (suc (suc zero)) value p lt is h = fits_is (get_or row 2 None) value (feature_of 2 p) is (all_four (fits (get_or row 0 None) (feature_of 0 p)) (fits (get_or row 1 None) (feature_of 1 p)) (fits (get_or row 2 None) (feature_of 2 p)) (fits (get_or row 3 None) (feature_of 3 p)) h).2
fixed_fits row (suc (suc (suc zero))) value p lt is h = fits_is (get_or row 3 None) value (feature_of 3 p) is (all_four (fits (get_or row 0 None) (feature_of 0 p)) (fits (get_or row 1 None) (feature_of 1 p)) (fits (get_or row 2 None) (feature_of 2 p)) (fits (get_or row 3 None) (feature_of 3 p)) h).3
fixed_fits row (suc (suc (suc (suc n)))) value p lt is h = absurd (omega (arith, lt))
