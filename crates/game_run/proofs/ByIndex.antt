-- What holds of each link in turn holds of each by its index, and the other way round.
use Rattle.std.proofs.Common.{zero, suc, ◌≡◌, ℕ, List, [], ◌∷◌, fold, length, map, take, refl, ap, sym, ◌∙◌, subst, Some, slice_get}
use Rattle.std.proofs.lemmas.List.{length-map}
use Rattle.game_run.specs.{known_then, then_known, LinkState, LinksState, Verdict, Seats, seats_after, HostedGame, free_seats, CameTo, HoldsInTurn, TakesLinks}
use Rattle.game_run.proofs.KeptSeats.{get_map}

module _ {A B : Type 0} (Holds : Seats → Verdict → A → B → Type 0) where
  -- the n-th holds by the seats after the first n verdicts
  abbrev HoldsAt : Seats → List A → List Verdict → List B → Type 0
  HoldsAt seats xs vs ys = (n : ℕ) (x : A) (v : Verdict) (y : B) → slice_get xs n ≡ Some x → slice_get vs n ≡ Some v → slice_get ys n ≡ Some y → Holds (fold seats_after seats (take n vs)) v x y

  as_long : (seats : Seats) (xs : List A) (vs : List Verdict) (ys : List B) → HoldsInTurn Holds seats xs vs ys → (length xs ≡ length vs) × (length ys ≡ length vs)
  as_long seats [] [] [] all = (refl, refl)
  as_long seats [] [] (y ∷ ys) all = absurd all
  as_long seats [] (v ∷ vs) ys all = absurd all
  as_long seats (x ∷ xs) [] ys all = absurd all
  as_long seats (x ∷ xs) (v ∷ vs) [] all = absurd all
  as_long seats (x ∷ xs) (v ∷ vs) (y ∷ ys) all = let more = as_long (seats_after seats v) xs vs ys all.1 in (ap suc more.0, ap suc more.1)

  at_index : (seats : Seats) (xs : List A) (vs : List Verdict) (ys : List B) → HoldsInTurn Holds seats xs vs ys → HoldsAt seats xs vs ys
  at_index seats [] [] [] all n x v y is_x is_v is_y = absurd (cc)
  at_index seats [] [] (b ∷ ys) all n x v y is_x is_v is_y = absurd all
  at_index seats [] (w ∷ vs) ys all n x v y is_x is_v is_y = absurd all
  at_index seats (a ∷ xs) [] ys all n x v y is_x is_v is_y = absurd all
  at_index seats (a ∷ xs) (w ∷ vs) [] all n x v y is_x is_v is_y = absurd all
  at_index seats (a ∷ xs) (w ∷ vs) (b ∷ ys) all zero x v y is_x is_v is_y =
      let same_x : a ≡ x = cc in let same_v : w ≡ v = cc in let same_y : b ≡ y = cc in
      subst (λ (l : Verdict × A × B). Holds seats l.0 l.1 l.2) (λ i. (same_v i, same_x i, same_y i)) all.0
  at_index seats (a ∷ xs) (w ∷ vs) (b ∷ ys) all (suc n) x v y is_x is_v is_y = at_index (seats_after seats w) xs vs ys all.1 n x v y is_x is_v is_y

  in_turn : (seats : Seats) (xs : List A) (vs : List Verdict) (ys : List B) → length xs ≡ length vs → length ys ≡ length vs → HoldsAt seats xs vs ys → HoldsInTurn Holds seats xs vs ys
  in_turn seats [] [] [] few many each = tt
  in_turn seats [] [] (y ∷ ys) few many each = absurd (cc)
  in_turn seats [] (v ∷ vs) ys few many each = absurd (cc)
  in_turn seats (x ∷ xs) [] ys few many each = absurd (cc)
  in_turn seats (x ∷ xs) (v ∷ vs) [] few many each = absurd (cc)
  in_turn seats (x ∷ xs) (v ∷ vs) (y ∷ ys) few many each =
      (each 0 x v y refl refl refl, in_turn (seats_after seats v) xs vs ys (cc) (cc) (λ n a w b is_a is_w is_b. each (suc n) a w b is_a is_w is_b))

-- ---- admission

module _ {L : Type 0} (state : L → LinkState) (hosted : HostedGame) (Sits : Seats → ℕ → LinkState → LinkState → Type 0) (verdicts : List Verdict) (links links' : LinksState L) (ended : List L) where
  pub takes : (given : List L) → links.pending ≡ then_known given links'.pending → links'.ports ≡ known_then links.ports (hosted.port ∷ [])
      → HoldsInTurn (CameTo Sits) (free_seats hosted.game) (map state given) verdicts (map state ended) → TakesLinks state hosted Sits verdicts links links' ended
  takes given from ports all =
      let seats = free_seats hosted.game in
      let long = as_long (CameTo Sits) seats (map state given) verdicts (map state ended) all in
      record {
        given = given;
        from = from;
        came = sym (length-map given state) ∙ long.0;
        left = sym (length-map ended state) ∙ long.1;
        each = λ n before verdict after is_before is_verdict is_after.
            at_index (CameTo Sits) seats (map state given) verdicts (map state ended) all n (state before) verdict (state after) (get_map state given n before is_before) is_verdict (get_map state ended n after is_after);
        ports = ports;
      }

  pub taken_in_turn : (taken : TakesLinks state hosted Sits verdicts links links' ended)
      → HoldsInTurn (λ seats verdict before after. CameTo Sits seats verdict (state before) (state after)) (free_seats hosted.game) taken.given verdicts ended
  taken_in_turn taken = in_turn (λ seats verdict before after. CameTo Sits seats verdict (state before) (state after)) (free_seats hosted.game) taken.given verdicts ended taken.came taken.left taken.each
