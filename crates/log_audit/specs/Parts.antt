-- The findings of a part of an audit, which looks for some kinds of flaws only; for private clauses.
use Rattle.std.specs.Prelude.{ℕ, ◌<◌, ◌≤◌, Option, Some, None}
use Rattle.log_audit.specs.Prelude.{GameFile, LoggedGame}
use Rattle.log_audit.specs.declared.findings.Flaw.{Flaw}
use Rattle.log_audit.specs.Flaws.{IsFreeOf, ComesBefore, turn_of}

-- a flaw of one of the kinds from one on and below another, and no flaw of these kinds comes before it
pub record IsFirstOf (game : GameFile) (log : LoggedGame) (from below : ℕ) (flaw : Flaw) : Type 0 where
  pub low : from ≤ turn_of flaw
  pub high : turn_of flaw < below
  pub has : IsFreeOf game log flaw → ⊥
  pub first : (other : Flaw) → from ≤ turn_of other → ComesBefore other flaw → IsFreeOf game log other

-- the log has no flaw of these kinds
abbrev pub HasNoneFrom : GameFile → LoggedGame → ℕ → ℕ → Type 0
HasNoneFrom game log from below = (flaw : Flaw) → from ≤ turn_of flaw → turn_of flaw < below → IsFreeOf game log flaw

-- the first flaw of these kinds, and none where there is none
abbrev pub IsFirstFrom : GameFile → LoggedGame → ℕ → ℕ → Option Flaw → Type 0
IsFirstFrom game log from below None = HasNoneFrom game log from below
IsFirstFrom game log from below (Some flaw) = IsFirstOf game log from below flaw
