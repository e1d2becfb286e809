-- Where each agent stands in their list.
use Rattle.std.proofs.Common.{◌≡◌, ℕ, zero, suc, ◌<◌, get_or, refl, arith}
use Rattle.tac_base.specs.Goods.{agents}

pub agent_at : (k d : ℕ) → k < 8 → get_or agents k d ≡ k
agent_at zero d low = refl
agent_at (suc zero) d low = refl
agent_at (suc (suc zero)) d low = refl
agent_at (suc (suc (suc zero))) d low = refl
agent_at (suc (suc (suc (suc zero)))) d low = refl
agent_at (suc (suc (suc (suc (suc zero))))) d low = refl
agent_at (suc (suc (suc (suc (suc (suc zero)))))) d low = refl
agent_at (suc (suc (suc (suc (suc (suc (suc zero))))))) d low = refl
agent_at (suc (suc (suc (suc (suc (suc (suc (suc k)))))))) d low = absurd (omega (arith, low))
