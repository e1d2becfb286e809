-- The range of each feature of a package.
use Rattle.std.proofs.Common.{◌≡◌, ℕ, zero, suc, ◌+◌, ◌<◌, true, ltb, Some, get_or, refl, subst, arith, slice_get, ltb-true}
use Rattle.std.specs.List.{list_all}
use Rattle.std.proofs.lemmas.List.Sums.{AllPass-from_list_all}
use Rattle.std.proofs.lemmas.Option.{get_or_from_slice_get, slice_get_within}
use Rattle.relaxation.specs.{Package, feature_of, values_of, packages, features_of}
use Rattle.packages.specs.declared.travel_packages.Package.TheVariants as kinds

all_in : (feature : ℕ) → feature < 4 → list_all (λ p. ltb (feature_of feature p) (values_of feature)) packages ≡ true
unfolding packages
all_in zero lt = refl
all_in (suc zero) lt = refl
all_in (suc (suc zero)) lt = refl
all_in (suc (suc (suc zero))) lt = refl
all_in (suc (suc (suc (suc n)))) lt = absurd (omega (arith, lt))

-- each feature has one of its values
pub value_in : (feature n : ℕ) (p : Package) → feature < 4 → slice_get packages n ≡ Some p → feature_of feature p < values_of feature
value_in feature n p lt at =
    let within = slice_get_within packages n p at in
    let here = get_or_from_slice_get packages n p kinds.None at in
    let test = AllPass-from_list_all (λ q. ltb (feature_of feature q) (values_of feature)) packages (all_in feature lt) n kinds.None within in
    ltb-true (feature_of feature p) (values_of feature) (subst (λ q. ltb (feature_of feature q) (values_of feature) ≡ true) here test)

above_nights : (value : ℕ) → value < 5 → value < 21
above_nights value lt = omega (arith, lt)

-- a feature has at most 21 values
pub few_values : (feature value : ℕ) → feature < 4 → value < values_of feature → value < 21
few_values zero value known lt = lt
few_values (suc zero) value known lt = above_nights value lt
few_values (suc (suc zero)) value known lt = above_nights value lt
few_values (suc (suc (suc zero))) value known lt = above_nights value lt
few_values (suc (suc (suc (suc n)))) value known lt = absurd (omega (arith, known))

-- the night of a ticket type
pub night_in : (kind n : ℕ) (p : Package) → kind < 3 → slice_get packages n ≡ Some p → feature_of (kind + 1) p < 5
night_in zero n p lt at = value_in 1 n p (omega arith) at
night_in (suc zero) n p lt at = value_in 2 n p (omega arith) at
night_in (suc (suc zero)) n p lt at = value_in 3 n p (omega arith) at
night_in (suc (suc (suc k))) n p lt at = absurd (omega (arith, lt))

-- the four features of a package by number
pub feature_at : (feature : ℕ) (p : Package) → feature < 4 → get_or (features_of p) feature 0 ≡ feature_of feature p
feature_at zero p lt = refl
feature_at (suc zero) p lt = refl
feature_at (suc (suc zero)) p lt = refl
feature_at (suc (suc (suc zero))) p lt = refl
feature_at (suc (suc (suc (suc n)))) p lt = absurd (omega (arith, lt))
