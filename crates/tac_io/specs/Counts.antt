-- Counts of faults, each a u64.
use Rattle.std.specs.Prelude.{◌≡◌, ℕ, ◌+◌, ◌-◌, ◌^◌, ◌≤◌, min, Result, MatchResult}

-- The count is higher than before; a count that is at its highest value stays there.
-- Row: counts_rise_or_stay (worked_rows/proofs/Links.antt)
pub record Rose (before now : ℕ) : Type 0 where
  pub never_falls : before ≤ now
  pub rises : min (before + 1) (2 ^ 64 - 1) ≤ now
  pub stays : before ≡ 2 ^ 64 - 1 → now ≡ before

-- A call that failed raised the count, in the sense of `Rose`; any other call left it unchanged.
abbrev pub HasCause : {T E : Type 0} → ℕ → ℕ → Result T E → Type 0
HasCause before now result = MatchResult result (λ _. now ≡ before) (λ _. Rose before now)
