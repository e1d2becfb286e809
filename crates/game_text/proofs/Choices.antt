-- A test before a value.
use Rattle.std.proofs.Common.{◌≡◌, Bool, true, false, cond, not, Result, Ok, Err, refl}
use Rattle.text_forms.specs.declared.lines.Reason.{Reason}
use Rattle.text_forms.proofs.Reading.{ok_is}

pub chosen : {A : Type 0} (b : Bool) (x : A) (reason : Reason) (y : A) → cond b (Ok x) (Err reason) ≡ Ok y → (b ≡ true) × (x ≡ y)
chosen true x reason y e = (refl, ok_is {E = Reason} x y e)
chosen false x reason y e = absurd cc

pub passed : {A : Type 0} (b : Bool) (reason : Reason) (r : Result A Reason) (y : A) → cond (not b) (Err reason) r ≡ Ok y → (b ≡ true) × (r ≡ Ok y)
passed true reason r y e = (refl, e)
passed false reason r y e = absurd cc
