-- Prices that keep clients from what is used up; for private clauses.
use Rattle.std.specs.Prelude.{ℕ, List, nat_le, if◌then◌else◌}
use Rattle.allocator.specs.Prelude.{DUAL_PRICE, Package, used_by}

-- a good of which nothing is left has the greatest price, and every other good none
abbrev pub scarcity_price : (ℕ → ℕ) → List Package → ℕ → ℕ
scarcity_price stock allocation good = if nat_le (stock good) (used_by allocation good) then DUAL_PRICE else 0
