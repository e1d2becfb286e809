-- Where nothing is fixed, everything is left.
use Rattle.std.proofs.Common.{◌≡◌, ℕ, zero, suc, true, refl}
use Rattle.allocator.specs.Prelude.{Package, all_left, has_fixed, chosen, nothing_fixed}

left_at : (k : ℕ) (p : Package) → chosen nothing_fixed k p ≡ true
unfolding has_fixed
left_at zero p = refl
left_at (suc zero) p = refl
left_at (suc (suc zero)) p = refl
left_at (suc (suc (suc zero))) p = refl
left_at (suc (suc (suc (suc zero)))) p = refl
left_at (suc (suc (suc (suc (suc zero))))) p = refl
left_at (suc (suc (suc (suc (suc (suc zero)))))) p = refl
left_at (suc (suc (suc (suc (suc (suc (suc zero))))))) p = refl
left_at (suc (suc (suc (suc (suc (suc (suc (suc k)))))))) p = refl

pub chosen_nothing : chosen nothing_fixed ≡ all_left
chosen_nothing = λ i k p. left_at k p i
