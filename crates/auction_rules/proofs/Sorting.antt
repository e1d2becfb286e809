-- Inserting a unit in its place keeps sorted units in order, and so does a filter.
use Rattle.std.proofs.Common.{◌≡◌, ℕ, zero, suc, ◌+◌, ◌≤◌, Bool, true, false, cond, not, List, [], ◌∷◌, length, refl, sym, subst, ◌∙◌, arith, Option, Some, None, nat_lt, insert, position, filter}
use Rattle.std.specs.List.{AllByRecursion, position_or_len}
use Rattle.std.proofs.lemmas.List.Sums.{prefix_len-le-length}
use Rattle.std.proofs.lemmas.Bool.Decides.{nat_tests}
use Rattle.tac_base.specs.declared.units.Unit.{Unit as ShownUnit}
use Rattle.auction_rules.specs.Shown.{IsSortedBy}
use Rattle.auction_rules.proofs.Lists.{all-filter, all-weaker}

-- inserting an element keeps what holds of it and of all others
pub all-put : {X : Type 0} (P : X → Type 0) (i : ℕ) (x : X) (xs : List X) → P x → AllByRecursion P xs → AllByRecursion P (insert xs i x)
all-put P zero x xs here h = (here, h)
all-put P (suc i) x [] here h = (here, tt)
all-put P (suc i) x (y ∷ xs) here h = (h.0, all-put P i x xs here h.1)

one_more : (n : ℕ) → 1 + n ≡ suc n
one_more n = omega arith

module _ (first : ShownUnit → ShownUnit → Bool) (not_back : (u v : ShownUnit) → first u v ≡ true → first v u ≡ false) (both : (u v w : ShownUnit) → first u v ≡ true → first w v ≡ false → first w u ≡ false) where
  pub sorted-put : (u : ShownUnit) (units : List ShownUnit) → IsSortedBy first units → IsSortedBy first (insert units (position_or_len (first u) units) u)
  sorted-put u [] h = (tt, tt)
  sorted-put u (v ∷ units) h = by_test (first u v) refl (sorted-put u units h.1)
    where
      place : ℕ
      place = position_or_len (first u) units

      by_test : (b : Bool) → first u v ≡ b → IsSortedBy first (insert units place u) → IsSortedBy first (insert (v ∷ units) (cond (not b) (1 + place) 0) u)
      by_test true is rest = ((not_back u v is, all-weaker (λ w. first w v ≡ false) (λ w. first w u ≡ false) units (λ w k. both u v w is k) h.0), h)
      by_test false is rest = subst (λ n. IsSortedBy first (insert (v ∷ units) n u)) (sym (one_more place)) (all-put (λ w. first w v ≡ false) place u units is h.0, rest)

-- a part of sorted units is sorted
pub sorted-filter : (first : ShownUnit → ShownUnit → Bool) (test : ShownUnit → Bool) (units : List ShownUnit) → IsSortedBy first units → IsSortedBy first (filter test units)
sorted-filter first test [] h = tt
sorted-filter first test (u ∷ units) h = by_test (test u) (sorted-filter first test units h.1)
  where
    by_test : (b : Bool) → IsSortedBy first (filter test units) → IsSortedBy first (cond b (u ∷ filter test units) (filter test units))
    by_test true rest = (all-filter (λ v. first v u ≡ false) test units h.0, rest)
    by_test false rest = rest

-- ---- the place of the first that passes, or the length

module _ (test : ShownUnit → Bool) (units : List ShownUnit) where
  end_is : position test units ≡ None → length units ≡ position_or_len test units
  end_is none = by_test (nat_lt (position_or_len test units) (length units)) refl none
    where
      by_test : (b : Bool) → nat_lt (position_or_len test units) (length units) ≡ b → cond b (Some (position_or_len test units)) None ≡ None → length units ≡ position_or_len test units
      by_test true h k = absurd cc
      by_test false h k = let up : length units ≤ position_or_len test units = grind (arith, nat_tests) in omega (arith, up, prefix_len-le-length (λ u. not (test u)) units)

  place_is : (place : ℕ) → position test units ≡ Some place → place ≡ position_or_len test units
  place_is place found = by_test (nat_lt (position_or_len test units) (length units)) found
    where
      by_test : (b : Bool) → cond b (Some (position_or_len test units)) None ≡ Some place → place ≡ position_or_len test units
      by_test true k = cc
      by_test false k = absurd cc

pub place_at : (test : ShownUnit → Bool) (units : List ShownUnit) (found : Option ℕ) (place : ℕ) → found ≡ position test units → found ≡ Some place → place ≡ position_or_len test units
place_at test units found place is some = place_is test units place (sym is ∙ some)

pub place_at_end : (test : ShownUnit → Bool) (units : List ShownUnit) (found : Option ℕ) → found ≡ position test units → found ≡ None → length units ≡ position_or_len test units
place_at_end test units found is none = end_is test units (sym is ∙ none)
