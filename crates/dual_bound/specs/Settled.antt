-- When no move of a single price improves the bound.
use Rattle.std.specs.Prelude.{◌≡◌, ℕ, ◌+◌, ◌<◌, ◌≤◌, ◌⊎◌, ℤ, Bool, false, List, Option, Some, None, set, slice_index, int_lt}
use Rattle.dual_bound.specs.Prelude.{DUAL_PRICE, GOODS, AccountFile, Narrowing, leaf_bound}

-- a bound is lower than another, if there are both
abbrev pub is_lower : Option ℤ → Option ℤ → Bool
is_lower None other = false
is_lower (Some bound) None = false
is_lower (Some bound) (Some other) = int_lt bound other

-- a price is another one raised or lowered by 50
abbrev pub IsPriceStep : ℕ → ℕ → Type 0
IsPriceStep price other = (price ≡ other + 50) ⊎ (price + 50 ≡ other)

-- no price of a good, raised or lowered by 50 within the range, gives a leaf bound lower than `bound`
abbrev pub IsSettledAt : AccountFile → Narrowing → List ℕ → Option ℤ → ℕ → Type 0
IsSettledAt account left prices bound good =
    (price : ℕ) → price ≤ DUAL_PRICE → IsPriceStep price (slice_index prices good) → is_lower (leaf_bound account left (set prices good price)) bound ≡ false

-- no single price, raised or lowered by 50 within the range, gives a lower leaf bound
abbrev pub IsSettled : AccountFile → Narrowing → List ℕ → Type 0
IsSettled account left prices = (good : ℕ) → good < GOODS → IsSettledAt account left prices (leaf_bound account left prices) good
