-- An array that a loop fills with what each element of a list gives.
use Rattle.std.proofs.Common.{◌≡◌, ℕ, ◌+◌, ◌<◌, List, [], ◌∷◌, ◌++◌, length, map, take, set, get_or, sym, ap, ◌∙◌, subst, arith, ℤ, to_z, of_z, w32, All}
use Rattle.std.proofs.lemmas.List.{map_more, take_more_set}
use Rattle.std.proofs.lemmas.List.Elements.{All-push}
use Rattle.std.proofs.lemmas.Int.{ints}
use Rattle.game_text.specs.Accounts.{IsHolding}

pub filled_more : {A B : Type 0} (f : A → B) (xs : List A) (ys : List B) (i : ℕ) (x : A) (y : B) → i < length xs → x ≡ get_or xs i x → i < length ys → y ≡ f x →
    take i ys ≡ map f (take i xs) → take (i + 1) (set ys i y) ≡ map f (take (i + 1) xs)
filled_more f xs ys i x y inside is inside' value so_far =
    take_more_set ys i y inside'
    ∙ ((λ k. so_far k ++ (value ∙ ap f is) k ∷ []) ∙ sym (map_more f xs i x inside))

pub all_more : {B : Type 0} (P : B → Type 0) (ys : List B) (i : ℕ) (y : B) → i < length ys → P y → All P (take i ys) → All P (take (i + 1) (set ys i y))
all_more {B} P ys i y inside here so_far =
    subst (λ (zs : List B). All P zs) (sym (take_more_set ys i y inside)) (All-push P (take i ys) y so_far here)

-- a holding as the code has it
pub holding_fits : (held : ℤ) → IsHolding held → to_z w32 (of_z w32 held) ≡ held
holding_fits held h = omega (arith, ints, h.0, h.1)
