-- Links and their verdicts, one by one: what holds of each, and of one more.
use Rattle.std.proofs.Common.{suc, ◌≡◌, List, [], ◌∷◌, ◌++◌, fold, length, refl, ap}
use Rattle.game_run.specs.{Verdict, Seats, seats_after, HoldsInTurn}

module _ {A B : Type 0} where
  -- one link more, whose verdict is by the seats after all before it
  pub one_more : (Holds : Seats → Verdict → A → B → Type 0) (seats : Seats) (xs : List A) (vs : List Verdict) (ys : List B) (x : A) (v : Verdict) (y : B)
      → HoldsInTurn Holds seats xs vs ys → Holds (fold seats_after seats vs) v x y → HoldsInTurn Holds seats (xs ++ x ∷ []) (vs ++ v ∷ []) (ys ++ y ∷ [])
  one_more Holds seats [] [] [] x v y all h = (h, tt)
  one_more Holds seats [] [] (b ∷ ys) x v y all h = absurd all
  one_more Holds seats [] (w ∷ vs) ys x v y all h = absurd all
  one_more Holds seats (a ∷ xs) [] ys x v y all h = absurd all
  one_more Holds seats (a ∷ xs) (w ∷ vs) [] x v y all h = absurd all
  one_more Holds seats (a ∷ xs) (w ∷ vs) (b ∷ ys) x v y all h = (all.0, one_more Holds (seats_after seats w) xs vs ys x v y all.1 h)

  -- what follows of each, where something is kept of the seats from one to the next
  pub follows : (Holds Then : Seats → Verdict → A → B → Type 0) (Kept : Seats → Type 0)
      → ((seats : Seats) (v : Verdict) (x : A) (y : B) → Kept seats → Holds seats v x y → Kept (seats_after seats v))
      → ((seats : Seats) (v : Verdict) (x : A) (y : B) → Kept seats → Holds seats v x y → Then seats v x y)
      → (seats : Seats) (xs : List A) (vs : List Verdict) (ys : List B) → Kept seats → HoldsInTurn Holds seats xs vs ys → HoldsInTurn Then seats xs vs ys
  follows Holds Then Kept keeps gives seats [] [] [] kept all = tt
  follows Holds Then Kept keeps gives seats [] [] (b ∷ ys) kept all = absurd all
  follows Holds Then Kept keeps gives seats [] (w ∷ vs) ys kept all = absurd all
  follows Holds Then Kept keeps gives seats (a ∷ xs) [] ys kept all = absurd all
  follows Holds Then Kept keeps gives seats (a ∷ xs) (w ∷ vs) [] kept all = absurd all
  follows Holds Then Kept keeps gives seats (a ∷ xs) (w ∷ vs) (b ∷ ys) kept all =
      (gives seats w a b kept all.0, follows Holds Then Kept keeps gives (seats_after seats w) xs vs ys (keeps seats w a b kept all.0) all.1)

  -- there is a holder for each verdict
  pub as_many : (Holds : Seats → Verdict → A → B → Type 0) (seats : Seats) (xs : List A) (vs : List Verdict) (ys : List B) → HoldsInTurn Holds seats xs vs ys → length ys ≡ length vs
  as_many Holds seats [] [] [] all = refl
  as_many Holds seats [] [] (b ∷ ys) all = absurd all
  as_many Holds seats [] (w ∷ vs) ys all = absurd all
  as_many Holds seats (a ∷ xs) [] ys all = absurd all
  as_many Holds seats (a ∷ xs) (w ∷ vs) [] all = absurd all
  as_many Holds seats (a ∷ xs) (w ∷ vs) (b ∷ ys) all = ap suc (as_many Holds (seats_after seats w) xs vs ys all.1)
