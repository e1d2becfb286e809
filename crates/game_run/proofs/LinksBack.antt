-- Links come back to their holders, one by one.
use Rattle.std.proofs.Common.{zero, suc, ◌≡◌, ℕ, List, [], ◌∷◌, ◌++◌, map, refl, ap, sym, ◌∙◌, Some, None, true, false, is_some, slice_get, slice_set, Option, option_map}
use Rattle.std.specs.List.{AllZip}
use Rattle.game_run.specs.declared.arrivals.Holder.{Holder}
use Rattle.game_run.specs.declared.arrivals.Holder.TheVariants.{Seat, Unseated}
use Rattle.game_run.specs.SeatedLinks.{AreFilled, IsLinkOf, agent_seats_after}
use Rattle.game_run.proofs.KeptSeats.{map_set}

pub zip_more : {A B : Type 0} (R : A → B → Type 0) (xs : List A) (ys : List B) (x : A) (y : B) → AllZip R xs ys → R x y → AllZip R (xs ++ x ∷ []) (ys ++ y ∷ [])
zip_more R [] [] x y all r = (r, tt)
zip_more R [] (b ∷ ys) x y all r = absurd all
zip_more R (a ∷ xs) [] x y all r = absurd all
zip_more R (a ∷ xs) (b ∷ ys) x y all r = (all.0, zip_more R xs ys x y all.1 r)

module _ {L : Type 0} where
  -- what is in a place after another was emptied was there before
  pub was_there : (agent_seats : List (Option L)) (a i : ℕ) (link : L) → slice_get (slice_set agent_seats a None) i ≡ Some (Some link) → slice_get agent_seats i ≡ Some (Some link)
  was_there [] a i link at = at
  was_there (p ∷ agent_seats) zero zero link at = absurd (cc)
  was_there (p ∷ agent_seats) zero (suc i) link at = at
  was_there (p ∷ agent_seats) (suc a) zero link at = at
  was_there (p ∷ agent_seats) (suc a) (suc i) link at = was_there agent_seats a i link at

  -- what is at a place after a holder was given its link was there before
  pub was_there_before : (agent_seats : List (Option L)) (holder : Holder L) (i : ℕ) (link : L) → slice_get (agent_seats_after agent_seats holder) i ≡ Some (Some link) → slice_get agent_seats i ≡ Some (Some link)
  was_there_before agent_seats (Unseated kept) i link at = at
  was_there_before agent_seats (Seat agent) i link at = was_there agent_seats agent i link at

  -- the link of a holder now is its link by what was there at first
  pub link_of_first : (first agent_seats : List (Option L)) (holder : Holder L) (link : L) → ((i : ℕ) (l : L) → slice_get agent_seats i ≡ Some (Some l) → slice_get first i ≡ Some (Some l)) → IsLinkOf agent_seats holder link → IsLinkOf first holder link
  link_of_first first agent_seats (Unseated kept) link same of = of
  link_of_first first agent_seats (Seat agent) link same of = same agent link of

two_sides : {X : Type 0} (o : Option X) (x : X) → o ≡ Some x → is_some o ≡ false → ⊥
two_sides None x e f = cc
two_sides (Some z) x e f = cc

kind_at : {X Y : Type 0} (xs : List (Option X)) (ys : List (Option Y)) (i : ℕ) (x : X) → map (λ o. is_some o) xs ≡ map (λ o. is_some o) ys → slice_get xs i ≡ Some (Some x) → (y : Y) × (slice_get ys i ≡ Some (Some y))
kind_at [] ys i x same at = absurd (cc)
kind_at (o ∷ xs) [] i x same at = absurd (cc)
kind_at (o ∷ xs) (None ∷ ys) zero x same at =
    let is : o ≡ Some x = cc in
    let none : is_some o ≡ false = cc in
    absurd (two_sides o x is none)
kind_at (o ∷ xs) (Some y ∷ ys) zero x same at = (y, refl)
kind_at (o ∷ xs) (p ∷ ys) (suc i) x same at = let rest : map (λ o. is_some o) xs ≡ map (λ o. is_some o) ys = cc in kind_at xs ys i x rest at

-- where the same places are filled, the same holders can be given what is there
pub filled_alike : {X Y L : Type 0} (xs : List (Option X)) (ys : List (Option Y)) (holders : List (Holder L)) → map (λ o. is_some o) xs ≡ map (λ o. is_some o) ys → AreFilled xs holders → AreFilled ys holders
filled_alike xs ys [] same filled = tt
filled_alike xs ys (Unseated link ∷ holders) same filled = (tt, filled_alike xs ys holders same filled.1)
filled_alike xs ys (Seat agent ∷ holders) same filled = (
  kind_at xs ys agent filled.0.0 same filled.0.1,
  filled_alike (slice_set xs agent None) (slice_set ys agent None) holders
      (map_set (λ o. is_some o) xs agent None ∙ (ap (λ l. slice_set l agent false) same ∙ sym (map_set (λ o. is_some o) ys agent None))) filled.1,
)

pub same_kinds : {X Y : Type 0} (f : X → Y) (xs : List (Option X)) → map (λ o. is_some o) xs ≡ map (λ o. is_some o) (map (λ o. option_map f o) xs)
same_kinds f [] = refl
same_kinds f (None ∷ xs) = ap (λ l. false ∷ l) (same_kinds f xs)
same_kinds f (Some x ∷ xs) = ap (λ l. true ∷ l) (same_kinds f xs)
