-- Prices whose bound an allocation reaches bound as low as any prices do.
use Rattle.std.proofs.Common.{◌≡◌, ℕ, ◌<◌, ◌≤◌, ℤ, pos, ◌+ℤ◌, ◌≤ℤ◌, true, false, List, Option, Some, None, length, get_or, set, sym, subst, ◌∙◌, refl, arith}
use Rattle.std.proofs.lemmas.Int.{ints}
use Rattle.dual_bound.specs.Prelude.{AccountFile, IsAccount, Package, is_package, IsFeasible, total_of, Narrowing, stock_value, leaf_bound, IsLeft, is_within}
use Rattle.packages.specs.declared.travel_packages.Package.TheVariants as kinds
use Rattle.bound_cert.proofs.Duality.{all_cost, margins_law, plus_some, cost_within}
use Rattle.dual_bound.specs.Settled.{is_lower, IsSettled}

-- a bound is there, and at least a total
abbrev pub IsAtLeast : Option ℤ → ℕ → Type 0
IsAtLeast bound total = (m : ℤ) × (bound ≡ Some m) × (pos total ≤ℤ m)

worth_within : (total cost stock : ℕ) (m : ℤ) → pos total ≤ℤ (m +ℤ pos cost) → cost ≤ stock → pos total ≤ℤ (pos stock +ℤ m)
worth_within total cost stock m h le = omega (arith, ints, h, le)

-- no prices bound what is left by less than a feasible allocation of it is worth
lowest : (account : AccountFile) (is_account : IsAccount account) (left : Narrowing) (prices : List ℕ) (ps : List Package) → IsFeasible account ps → IsLeft left ps → IsAtLeast (leaf_bound account left prices) (total_of account.clients ps)
lowest account is_account left prices ps feasible is_left =
    let lawful : (k : ℕ) → k < length ps → is_package (get_or ps k kinds.None) ≡ true = λ k lt. feasible.lawful k kinds.None lt in
    let law = margins_law left prices account.clients ps 0 (is_account.clients.count ∙ sym feasible.eight) lawful
    (λ k lt. subst (λ j. left j (get_or ps k kinds.None) ≡ true) (omega arith) (is_left k (omega (arith, feasible.eight)))) in (
      pos (stock_value account.holdings prices) +ℤ law.0,
      plus_some _ _ (pos (stock_value account.holdings prices)) law.0 refl law.1,
      worth_within (total_of account.clients ps) (all_cost prices ps) (stock_value account.holdings prices) law.0 law.2 (cost_within account prices ps feasible),
    )

not_lower : (other bound : Option ℤ) (total : ℕ) → IsAtLeast other total → is_within bound total ≡ true → is_lower other bound ≡ false
not_lower None bound total low within = refl
not_lower (Some m) None total low within = refl
not_lower (Some m) (Some b) total low within =
    let is : m ≡ low.0 = cc (low.1) in
    let least = low.2 in
    grind (arith, ints)

pub reached_settled : (account : AccountFile) (is_account : IsAccount account) (left : Narrowing) (prices : List ℕ) (ps : List Package) → IsFeasible account ps → IsLeft left ps → is_within (leaf_bound account left prices) (total_of account.clients ps) ≡ true
    → IsSettled account left prices
reached_settled account is_account left prices ps feasible is_left within = λ good lt price small step.
    not_lower (leaf_bound account left (set prices good price)) (leaf_bound account left prices) (total_of account.clients ps) (lowest account is_account left (set prices good price) ps feasible is_left) within
