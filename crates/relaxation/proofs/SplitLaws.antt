-- The 32 places of features.
use Rattle.std.proofs.Common.{◌≡◌, ℕ, ◌+◌, ◌*◌, ◌/◌, ◌%◌, ◌<◌, ◌≤◌, true, List, Option, Some, None, is_some, IfNone, subst, arith}
use Rattle.relaxation.specs.Splits.{fixed_at, IsFull}

-- where no free place was found among the 32, every feature is fixed
pub full_of_places : {X : Type 0} (fixed : List (List (Option ℕ))) (found : Option X) (place : ℕ) → 32 ≤ place → IfNone found ((k : ℕ) → k < place → is_some (fixed_at fixed (k / 4) (k % 4)) ≡ true) → IfNone found (IsFull fixed)
full_of_places fixed (Some x) place far h = h
full_of_places fixed None place far h = λ client feature client_in feature_in.
    let client_is : (4 * client + feature) / 4 ≡ client = omega arith in
    let feature_is : (4 * client + feature) % 4 ≡ feature = omega arith in
    let at = h (4 * client + feature) (omega arith) in
    subst (λ j. is_some (fixed_at fixed j feature) ≡ true) client_is (subst (λ j. is_some (fixed_at fixed ((4 * client + feature) / 4) j) ≡ true) feature_is at)
