-- What holds of both versions.
use Rattle.std.proofs.Common.{ℕ, zero, suc, ◌≤◌, arith}

pub by_version : (P : ℕ → Type 0) (version : ℕ) → 1 ≤ version → version ≤ 2 → P 1 → P 2 → P version
by_version P zero low high one two = absurd (omega (arith, low))
by_version P (suc zero) low high one two = one
by_version P (suc (suc zero)) low high one two = two
by_version P (suc (suc (suc n))) low high one two = absurd (omega (arith, high))
