-- Lists with equal sums under every weight of units have the same units, each equally often.
use Rattle.std.proofs.Common.{◌≡◌, ℕ, ◌+◌, ◌≤◌, Bool, true, false, cond, List, [], ◌∷◌, ◌++◌, map, refl, sym, ap, ◌∙◌, arith, subst, ◌==◌, ◌&&◌, sum_by, count_by, IsPermutation}
use Rattle.std.proofs.lemmas.List.Sorted.{IsPermutation-refl, IsPermutation-sym, IsPermutation-trans, IsPermutation-cons, IsPermutation-middle}
use Rattle.std.proofs.lemmas.List.Sums.{sum_by-cons, sum_by-append}
use Rattle.std.proofs.lemmas.Bool.Decides.{nat_tests}
use Rattle.tac_base.specs.declared.units.Unit.{Unit as ShownUnit}
use Rattle.auction_rules.specs.declared.units.BidUnit.{BidUnit}
use Rattle.auction_rules.specs.Shown.{shown_unit, AreShown}

-- ---- whether two units shown are the same

same : ShownUnit → ShownUnit → Bool
same u v = (u.agent == v.agent) && ((u.price == v.price) && ((u.position == v.position) && (u.index == v.index)))

same_is : (u v : ShownUnit) → same u v ≡ true → v ≡ u
unfolding same
same_is u v h =
    let agent : v.agent ≡ u.agent = grind (arith, nat_tests) in
    let price : v.price ≡ u.price = grind (arith, nat_tests) in
    let position : v.position ≡ u.position = grind (arith, nat_tests) in
    let index : v.index ≡ u.index = grind (arith, nat_tests) in
    λ i. record { agent = agent i; price = price i; position = position i; index = index i }

same_self : (u : ShownUnit) → same u u ≡ true
unfolding same
same_self u = grind (arith, nat_tests)

-- ---- a unit of a list, and what is left of it

abbrev Parts : ShownUnit → List ShownUnit → Type 0
Parts u units = (before : List ShownUnit) × (after : List ShownUnit) × (units ≡ before ++ u ∷ after)

part_at : (u : ShownUnit) (units : List ShownUnit) → 1 ≤ count_by (same u) units → Parts u units
part_at u [] some = absurd (omega arith)
part_at u (v ∷ units) some = by_test (same u v) refl (part_at u units)
  where
    by_test : (b : Bool) → same u v ≡ b → (1 ≤ count_by (same u) units → Parts u units) → Parts u (v ∷ units)
    by_test true is rest = ([], units, ap (λ w. w ∷ units) (same_is u v is))
    by_test false is rest =
        let first = sum_by-cons (λ w. cond (same u w) 1 0) v units in
        let none : ◌≡◌ {A = ℕ} (cond (same u v) 1 0) 0 = rw is refl in
        let later = rest (omega (arith, first, none, some)) in
        (v ∷ later.0, later.1, ap (λ ws. v ∷ ws) later.2)

-- the same units, each equally often
permuted_units : (xs ys : List ShownUnit) → ((weight : ShownUnit → ℕ) → sum_by weight ys ≡ sum_by weight xs) → IsPermutation xs ys
permuted_units [] [] alike = IsPermutation-refl []
permuted_units [] (y ∷ ys) alike = absurd (omega (arith, sum_by-cons (λ _. 1) y ys, alike (λ _. 1)))
permuted_units (x ∷ xs) ys alike = from_parts (part_at x ys found) (permuted_units xs)
  where
    one : ◌≡◌ {A = ℕ} (cond (same x x) 1 0) 1
    one = rw (same_self x) refl

    found : 1 ≤ count_by (same x) ys
    found = omega (arith, alike (λ w. cond (same x w) 1 0), sum_by-cons (λ w. cond (same x w) 1 0) x xs, one)

    from_parts : Parts x ys → ((zs : List ShownUnit) → ((weight : ShownUnit → ℕ) → sum_by weight zs ≡ sum_by weight xs) → IsPermutation xs zs) → IsPermutation (x ∷ xs) ys
    from_parts parts later =
        let before = parts.0 in let after = parts.1 in
        subst (IsPermutation (x ∷ xs)) (sym parts.2)
        (IsPermutation-trans (x ∷ xs) (x ∷ (before ++ after)) (before ++ x ∷ after) (IsPermutation-cons x xs (before ++ after) (later (before ++ after) rest))
        (IsPermutation-sym (before ++ x ∷ after) (x ∷ (before ++ after)) (IsPermutation-middle before x after)))
      where
        rest : (weight : ShownUnit → ℕ) → sum_by weight (parts.0 ++ parts.1) ≡ sum_by weight xs
        rest weight =
            let whole : sum_by weight (parts.0 ++ x ∷ parts.1) ≡ sum_by weight (x ∷ xs) = ap (sum_by weight) (sym parts.2) ∙ alike weight in
            omega (arith, whole, sum_by-append weight parts.0 (x ∷ parts.1), sum_by-append weight parts.0 parts.1, sum_by-cons weight x parts.1, sum_by-cons weight x xs)

pub sum_by-map : {A B : Type 0} (f : A → B) (weight : B → ℕ) (xs : List A) → sum_by weight (map f xs) ≡ sum_by (λ x. weight (f x)) xs
sum_by-map f weight [] = refl
sum_by-map f weight (x ∷ xs) = sum_by-cons weight (f x) (map f xs) ∙ ap (λ n. weight (f x) + n) (sum_by-map f weight xs) ∙ sym (sum_by-cons (λ y. weight (f y)) x xs)

-- the units shown are those that stand, in another order
pub permuted : (standing : List BidUnit) (units : List ShownUnit) → AreShown standing units → IsPermutation (map shown_unit standing) units
permuted standing units shown = permuted_units (map shown_unit standing) units (λ weight. shown weight ∙ sym (sum_by-map shown_unit weight standing))
