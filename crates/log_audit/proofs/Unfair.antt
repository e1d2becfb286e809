-- The first entry of all goods that is not fair.
use Rattle.std.proofs.Common.{◌≡◌, ℕ, ◌<◌, inl, inr, sym, subst, arith}
use Rattle.log_audit.specs.{GameFile, setup_of, LoggedGame, logged_history, HasFairEntry, IsLower, IsUnfair, AreUnfair}

module _ (game : GameFile) (log : LoggedGame) where
  pub unfair_at : (number good position : ℕ) → good ≡ number → number < 28 → IsUnfair (setup_of good game) (logged_history log good) position
      → ((g p : ℕ) → g < number → HasFairEntry (setup_of g game) (logged_history log g) p) → AreUnfair game log good position
  unfair_at number good position same inside unfair earlier = record { low = omega (arith, same, inside); unfair = unfair.unfair; first = λ other place low lower. by_order other place lower }
    where
      by_order : (other place : ℕ) → IsLower (other, place) (good, position) → HasFairEntry (setup_of other game) (logged_history log other) place
      by_order other place (inl lower) = earlier other place (omega (arith, lower, same))
      by_order other place (inr both) = subst (λ (g : ℕ). HasFairEntry (setup_of g game) (logged_history log g) place) (sym both.0) (unfair.first place both.1)
