-- A certificate that holds bounds every feasible allocation.
use Rattle.std.proofs.Common.{◌≡◌, ℕ, zero, suc, ◌+◌, ◌<◌, ◌≤◌, Bool, true, false, List, length, get_or, eqb, eq-eqb, inl, inr, ◌*◌, refl, ap, subst, arith}
use Rattle.std.proofs.lemmas.Bool.{and_parts, cases_lt}
use Rattle.std.proofs.lemmas.List.{get_or_past}
use Rattle.packages.proofs.Found.{ranges_of, night_ranges}
use Rattle.std.proofs.lemmas.Bool.Decides.{nat_tests}
use Rattle.bound_cert.specs.Prelude.{AccountFile, IsAccount, Package, is_package, Narrowing, feature_of, rank_of, values_of, narrowed, IsFeasible, total_of}
use Rattle.packages.specs.declared.travel_packages.Package.TheVariants as kinds
use Rattle.bound_cert.specs.Trees.{Tree, leaf, split, Trees, no_trees, more, tree_count}
use Rattle.bound_cert.specs.Certificate.{holds, all_hold, all_left, IsLeft, BoundsAll}
use Rattle.bound_cert.proofs.Duality.{leaf_law}

trip_below : (hotel arrive depart : ℕ) (nights : List ℕ) → is_package (kinds.Trip hotel arrive depart nights) ≡ true → 1 + 10 * hotel + rank_of arrive depart < 21
trip_below hotel arrive depart nights lawful = grind (arith, nat_tests)

-- a package's value is one of its feature's
feature_below : (feature : ℕ) (p : Package) → is_package p ≡ true → feature_of feature p < values_of feature
feature_below zero kinds.None lawful = omega arith
feature_below (suc kind) kinds.None lawful = grind (arith, nat_tests)
feature_below zero (kinds.Trip hotel arrive depart nights) lawful = trip_below hotel arrive depart nights lawful
feature_below (suc kind) (kinds.Trip hotel arrive depart nights) lawful =
    let ranges = ranges_of hotel arrive depart nights lawful in
    let below : get_or nights kind 0 < 5 = night_ranges arrive depart nights kind ranges.depart_in ranges.stays in
    grind (arith, nat_tests, below)

keeps_at : (b : Bool) (left : Narrowing) (k client feature : ℕ) (p q : Package) → eqb k client ≡ b → (k ≡ client → p ≡ q) → left k p ≡ true → narrowed left client feature (feature_of feature q) k p ≡ true
keeps_at false left k client feature p q is same h = rw (h, is)
keeps_at true left k client feature p q is same h =
    let client_is : k ≡ client = grind (arith, nat_tests) in
    let value_is : eqb (feature_of feature p) (feature_of feature q) ≡ true = eq-eqb _ _ (ap (feature_of feature) (same client_is)) in
    rw (h, is, value_is)

-- what a feasible allocation has at a place, also past its end
lawful_at : (account : AccountFile) (ps : List Package) (k : ℕ) → IsFeasible account ps → is_package (get_or ps k kinds.None) ≡ true
lawful_at account ps k feasible = elim (cases_lt k (length ps)) [
  | inl lt ↦ feasible.lawful k kinds.None lt
  | inr ge ↦ ap is_package (get_or_past ps k kinds.None ge)
]

-- what is left at a client's own value holds its package still
keeps_own : (left : Narrowing) (client feature : ℕ) (ps : List Package) → IsLeft left ps → IsLeft (narrowed left client feature (feature_of feature (get_or ps client kinds.None))) ps
keeps_own left client feature ps h = λ k lt. keeps_at (eqb k client) left k client feature (get_or ps k kinds.None) (get_or ps client kinds.None) refl (λ is. ap (λ j. get_or ps j kinds.None) is) (h k lt)

child_below : (n m k : ℕ) → eqb n m ≡ true → k < m → k < n
child_below n m k is lt = grind (arith, nat_tests)

mutual
  bounded : (account : AccountFile) (is_account : IsAccount account) (claim : ℕ) (left : Narrowing) (t : Tree) (ps : List Package) → holds account claim left t ≡ true → IsFeasible account ps → IsLeft left ps → total_of account.clients ps ≤ claim
  bounded account is_account claim left (leaf prices) ps h feasible is_left = leaf_law account is_account claim left prices ps h feasible is_left
  bounded account is_account claim left (split client feature trees) ps h feasible is_left =
      let parts = and_parts (eqb (tree_count trees) (values_of feature)) (all_hold account claim left client feature 0 trees) h in
      let value = feature_of feature (get_or ps client kinds.None) in
      let below : value < tree_count trees = child_below (tree_count trees) (values_of feature) value parts.0 (feature_below feature (get_or ps client kinds.None) (lawful_at account ps client feasible)) in
      one_bounded account is_account claim left client feature 0 value value trees ps parts.1 (omega arith) below feasible (keeps_own left client feature ps is_left)

  -- the child of the packages' own value is among the children
  one_bounded : (account : AccountFile) (is_account : IsAccount account) (claim : ℕ) (left : Narrowing) (client feature first k value : ℕ) (trees : Trees) (ps : List Package) → all_hold account claim left client feature first trees ≡ true
      → first + k ≡ value → k < tree_count trees → IsFeasible account ps → IsLeft (narrowed left client feature value) ps → total_of account.clients ps ≤ claim
  one_bounded account is_account claim left client feature first k value no_trees ps h is lt feasible is_left = absurd (omega arith)
  one_bounded account is_account claim left client feature first zero value (more t ts) ps h is lt feasible is_left =
      let parts = and_parts (holds account claim (narrowed left client feature first) t) (all_hold account claim left client feature (first + 1) ts) h in
      let same : value ≡ first = omega arith in
      bounded account is_account claim (narrowed left client feature first) t ps parts.0 feasible (subst (λ v. IsLeft (narrowed left client feature v) ps) same is_left)
  one_bounded account is_account claim left client feature first (suc k) value (more t ts) ps h is lt feasible is_left =
      let parts = and_parts (holds account claim (narrowed left client feature first) t) (all_hold account claim left client feature (first + 1) ts) h in
      one_bounded account is_account claim left client feature (first + 1) k value ts ps parts.1 (omega arith) (omega arith) feasible is_left

-- a certificate that holds for a claim bounds every feasible allocation
pub bounds_all : (account : AccountFile) (is_account : IsAccount account) (claim : ℕ) (t : Tree) → holds account claim all_left t ≡ true → BoundsAll account claim
bounds_all account is_account claim t h ps feasible = bounded account is_account claim all_left t ps h feasible (λ k lt. refl)
