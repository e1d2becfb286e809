-- Tables that are narrowed by what a choice fixes, place by place.
use Rattle.std.proofs.Common.{◌≡◌, ◌≢◌, ℕ, ◌+◌, ◌*◌, ◌<◌, ◌≤◌, ◌&&◌, ◌⊎◌, ℤ, pos, ◌<ℤ◌, Bool, true, false, List, [], Option, Some, None, get_or, inl, inr, refl, sym, subst, ◌∙◌, arith, slice_get}
use Rattle.std.proofs.lemmas.Bool.{cases_eq}
use Rattle.std.proofs.lemmas.Bool.Decides.{nat_tests}
use Rattle.dual_bound.specs.{Package, feature_of, packages, dollars_at, IsNarrowed, KeepsOthers, fixed_at, chosen, fits, has_fixed, IsNarrowedBy, IsRestricted, KeepsLeft}
use Rattle.dual_bound.proofs.ChoiceLaws.{fixed_fits}

-- a table that keeps what has a fixed value keeps what is left
keeps_chosen : (choice : List (List (Option ℕ))) (client feature value : ℕ) (old new : List ℤ) → feature < 4 → fixed_at choice client feature ≡ Some value → KeepsOthers (feature_of feature) client value old new → KeepsLeft (chosen choice) old new
keeps_chosen choice client feature value old new lt is keeps = λ k n p k_in at left.
    keeps k n p k_in at (λ same. fixed_fits (get_or choice client []) feature value p lt is (subst (λ j. chosen choice j p ≡ true) same left))

keeps_by : (choice : List (List (Option ℕ))) (client feature : ℕ) (fixed : Option ℕ) (old new : List ℤ) → feature < 4 → fixed_at choice client feature ≡ fixed → IsNarrowedBy fixed client feature old new → KeepsLeft (chosen choice) old new
keeps_by choice client feature None old new lt is same = λ k n p k_in at left. subst (λ table. dollars_at table k n ≡ dollars_at old k n) (sym same) refl
keeps_by choice client feature (Some value) old new lt is narrowed = keeps_chosen choice client feature value old new lt is narrowed.keeps

-- one more feature keeps what is left
pub keeps_next : (choice : List (List (Option ℕ))) (client feature : ℕ) (first old new : List ℤ) → feature < 4 → IsNarrowedBy (fixed_at choice client feature) client feature old new → KeepsLeft (chosen choice) first old → KeepsLeft (chosen choice) first new
keeps_next choice client feature first old new lt narrowed before = λ k n p k_in at left.
    keeps_by choice client feature (fixed_at choice client feature) old new lt refl narrowed k n p k_in at left ∙ before k n p k_in at left

-- a table from which the packages were taken that lack a fixed value of the first so many features, four for each client
abbrev pub TakesSoFar : List (List (Option ℕ)) → ℕ → List ℤ → Type 0
TakesSoFar choice count new =
    (k n feature value : ℕ) (p : Package) → k < 8 → feature < 4 → 4 * k + feature < count → slice_get packages n ≡ Some p → fixed_at choice k feature ≡ Some value → feature_of feature p ≢ value → dollars_at new k n <ℤ pos 0

some_is : (fixed : Option ℕ) (a b : ℕ) → fixed ≡ Some a → fixed ≡ Some b → a ≡ b
some_is fixed a b ha hb = cc

-- what was taken stays taken
stays : (feature : Package → ℕ) (client value k n : ℕ) (p : Package) (old new : List ℤ) → k < 8 → slice_get packages n ≡ Some p → IsNarrowed feature client value old new → dollars_at old k n <ℤ pos 0 → dollars_at new k n <ℤ pos 0
stays feature client value k n p old new k_in at narrowed below = elim (cases_eq (feature p) value) [
  | inl has ↦ subst (λ d. d <ℤ pos 0) (sym (narrowed.keeps k n p k_in at (λ same. has))) below
  | inr lacks ↦ elim (cases_eq k client) [
    | inl same ↦ subst (λ j. dollars_at new j n <ℤ pos 0) (sym same) (narrowed.takes n p at lacks)
    | inr other ↦ subst (λ d. d <ℤ pos 0) (sym (narrowed.keeps k n p k_in at (λ same. absurd (other same)))) below
  ]
]

takes_by : (choice : List (List (Option ℕ))) (client feature : ℕ) (fixed : Option ℕ) (old new : List ℤ) → feature < 4 → fixed_at choice client feature ≡ fixed → IsNarrowedBy fixed client feature old new
    → TakesSoFar choice (4 * client + feature) old → TakesSoFar choice (4 * client + feature + 1) new
takes_by choice client feature None old new feature_in is same before = λ k n other value p k_in other_in lt at fixed lacks. elim (cases_eq (4 * k + other) (4 * client + feature)) [
  | inl here ↦
      let k_is : k ≡ client = omega (arith, here, feature_in, other_in) in
      let other_is : other ≡ feature = omega (arith, here, k_is) in
      let none : fixed_at choice k other ≡ None = rw (k_is, other_is) is in
      cc (none, fixed)
  | inr apart ↦ subst (λ table. dollars_at table k n <ℤ pos 0) (sym same) (before k n other value p k_in other_in (omega (arith, lt, apart)) at fixed lacks)
]
takes_by choice client feature (Some kept) old new feature_in is narrowed before = λ k n other value p k_in other_in lt at fixed lacks. elim (cases_eq (4 * k + other) (4 * client + feature)) [
  | inl here ↦
      let k_is : k ≡ client = omega (arith, here, feature_in, other_in) in
      let other_is : other ≡ feature = omega (arith, here, k_is) in
      let kept_here : fixed_at choice k other ≡ Some kept = rw (k_is, other_is) is in
      let value_is : value ≡ kept = some_is (fixed_at choice k other) value kept fixed kept_here in
      let lacks_kept : feature_of feature p ≢ kept = λ has. lacks (subst (λ f. feature_of f p ≡ value) (sym other_is) (has ∙ sym value_is)) in
      subst (λ j. dollars_at new j n <ℤ pos 0) (sym k_is) (narrowed.takes n p at lacks_kept)
  | inr apart ↦ stays (feature_of feature) client kept k n p old new k_in at narrowed (before k n other value p k_in other_in (omega (arith, lt, apart)) at fixed lacks)
]

-- one more feature takes what lacks its fixed value
pub takes_next : (choice : List (List (Option ℕ))) (client feature place : ℕ) (old new : List ℤ) → feature < 4 → place ≡ 4 * client + feature → IsNarrowedBy (fixed_at choice client feature) client feature old new → TakesSoFar choice place old → TakesSoFar choice (place + 1) new
takes_next choice client feature place old new lt is narrowed before =
    let so_far = subst (λ count. TakesSoFar choice count old) is before in
    subst (λ count. TakesSoFar choice (count + 1) new) (sym is) (takes_by choice client feature (fixed_at choice client feature) old new lt refl narrowed so_far)

-- a fixed value that a package lacks
abbrev Lacks : List (Option ℕ) → Package → Type 0
Lacks row p = (feature : ℕ) × (value : ℕ) × (feature < 4) × (get_or row feature None ≡ Some value) × (feature_of feature p ≢ value)

lacks_at : (row : List (Option ℕ)) (p : Package) (feature : ℕ) (fixed : Option ℕ) → feature < 4 → get_or row feature None ≡ fixed → fits fixed (feature_of feature p) ≡ false → Lacks row p
lacks_at row p feature None lt is h = cc
lacks_at row p feature (Some value) lt is h = (feature, value, lt, is, λ has. grind (arith, nat_tests, h, has))

one_fails : (a b c d : Bool) → (a && (b && (c && d))) ≡ false → (a ≡ false) ⊎ ((b ≡ false) ⊎ ((c ≡ false) ⊎ (d ≡ false)))
one_fails false b c d h = inl refl
one_fails true false c d h = inr (inl refl)
one_fails true true false d h = inr (inr (inl refl))
one_fails true true true d h = inr (inr (inr h))

lacks_some : (row : List (Option ℕ)) (p : Package) → has_fixed row p ≡ false → Lacks row p
unfolding has_fixed
lacks_some row p h =
    let fit : ℕ → Bool = λ feature. fits (get_or row feature None) (feature_of feature p) in
    elim (one_fails (fit 0) (fit 1) (fit 2) (fit 3) h) [
      | inl first ↦ lacks_at row p 0 (get_or row 0 None) (omega arith) refl first
      | inr rest ↦ elim rest [
        | inl second ↦ lacks_at row p 1 (get_or row 1 None) (omega arith) refl second
        | inr more ↦ elim more [
          | inl third ↦ lacks_at row p 2 (get_or row 2 None) (omega arith) refl third
          | inr fourth ↦ lacks_at row p 3 (get_or row 3 None) (omega arith) refl fourth
        ]
      ]
    ]

-- all 32 features restrict a table to what is left
pub restricted : (choice : List (List (Option ℕ))) (count : ℕ) (old new : List ℤ) → 32 ≤ count → KeepsLeft (chosen choice) old new → TakesSoFar choice count new → IsRestricted (chosen choice) old new
restricted choice count old new all keeps takes = record {
  keeps = keeps;
  takes = λ k n p k_in at out.
      let lacks = lacks_some (get_or choice k []) p out in
      takes k n lacks.0 lacks.1 p k_in lacks.2 (omega (arith, k_in, lacks.2, all)) at lacks.3 lacks.4;
}
