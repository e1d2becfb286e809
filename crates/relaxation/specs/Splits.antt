-- Features that are fixed, and whether one is left to split by.
use Rattle.std.specs.Prelude.{◌≡◌, ℕ, ◌<◌, true, List, [], Option, None, is_some, slice_index_or}

-- the fixed value of a client's feature, if there is one
abbrev pub fixed_at : List (List (Option ℕ)) → ℕ → ℕ → Option ℕ
fixed_at fixed client feature = slice_index_or (slice_index_or fixed client []) feature None

-- every feature of the eight clients is fixed
abbrev pub IsFull : List (List (Option ℕ)) → Type 0
IsFull fixed = (client feature : ℕ) → client < 8 → feature < 4 → is_some (fixed_at fixed client feature) ≡ true
