-- A text is refused as too long exactly past its limit.
use Rattle.std.proofs.Common.{◌≡◌, ℕ, ◌<◌, Bool, true, false, cond, ltb, Result, Ok, Err, refl, arith, ltb-true, ltb-false}
use Rattle.text_forms.specs.declared.lines.BadLine.{BadLine}
use Rattle.game_text.specs.declared.fault.GameFault.TheVariants.{TooLong}
use Rattle.game_text.specs.Faults.{or_game_fault}

refused_ok : {A : Type 0} (r : Result A BadLine) (x : A) → or_game_fault r ≡ Ok x → r ≡ Ok x
refused_ok (Ok y) x e = cc
refused_ok (Err bad) x e = absurd cc

pub within_limit : {A : Type 0} (long : Bool) (r : Result A BadLine) (x : A) → cond long (Err TooLong) (or_game_fault r) ≡ Ok x → r ≡ Ok x
within_limit true r x e = absurd cc
within_limit false r x e = refused_ok r x e

no_length : {A : Type 0} (r : Result A BadLine) → or_game_fault r ≡ Err TooLong → ⊥
no_length (Ok x) e = cc
no_length (Err bad) e = cc

pub by_length : {A : Type 0} (limit n : ℕ) (r : Result A BadLine) (long : Bool) → ltb limit n ≡ long → (cond long (Err TooLong) (or_game_fault r) ≡ Err TooLong → limit < n) × (limit < n → cond long (Err TooLong) (or_game_fault r) ≡ Err TooLong)
by_length limit n r true e = (λ h. ltb-true _ _ e, λ lt. refl)
by_length limit n r false e = (λ h. absurd (no_length r h), λ lt. absurd (let le = ltb-false _ _ e in omega (arith, le, lt)))
