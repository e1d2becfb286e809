-- The links at the seats of agents, and their holders.
use Rattle.std.proofs.Common.{zero, suc, ◌≡◌, ◌≢◌, ℕ, ◌<◌, List, [], ◌∷◌, map, length, refl, ap, sym, ◌∙◌, subst, true, false, Bool, Some, None, arith, length-set, position, if◌then◌else◌, slice_get, slice_set, slice_index_or, bytes_eq, Option, get_or-set_same}
use Rattle.std.proofs.lemmas.Option.{slice_get_within}
use Rattle.game_run.specs.{Verdict, Seated, Syntax, WrongWord, Taken, Lost, Seats, verdict_of, word_verdict, seat_verdict, greeting_of, seats_after, LinkState, HoldsInTurn, IsTurnedAway, Keeps, AreFilled, AreLinksOf}
use Rattle.game_run.specs.declared.arrivals.Holder.{Holder}
use Rattle.game_run.specs.declared.arrivals.Holder.TheVariants.{Seat, Unseated}
use Rattle.game_run.proofs.Admitting.{follows}

-- ---- places in a list

pub get_set_same : {X : Type 0} (xs : List X) (i : ℕ) (y : X) → i < length xs → slice_get (slice_set xs i y) i ≡ Some y
get_set_same [] i y lt = absurd (omega (arith, lt))
get_set_same (x ∷ xs) zero y lt = refl
get_set_same (x ∷ xs) (suc i) y lt = get_set_same xs i y (omega (arith, lt))

pub get_set_other : {X : Type 0} (xs : List X) (i j : ℕ) (y : X) → j ≢ i → slice_get (slice_set xs i y) j ≡ slice_get xs j
get_set_other [] i j y ne = refl
get_set_other (x ∷ xs) zero zero y ne = absurd (ne refl)
get_set_other (x ∷ xs) zero (suc j) y ne = refl
get_set_other (x ∷ xs) (suc i) zero y ne = refl
get_set_other (x ∷ xs) (suc i) (suc j) y ne = get_set_other xs i j y (λ e. ne (ap suc e))

pub map_set : {X Y : Type 0} (f : X → Y) (xs : List X) (i : ℕ) (y : X) → map f (slice_set xs i y) ≡ slice_set (map f xs) i (f y)
map_set f [] i y = refl
map_set f (x ∷ xs) zero y = refl
map_set f (x ∷ xs) (suc i) y = ap (λ l. f x ∷ l) (map_set f xs i y)

pub get_map : {X Y : Type 0} (f : X → Y) (xs : List X) (i : ℕ) (x : X) → slice_get xs i ≡ Some x → slice_get (map f xs) i ≡ Some (f x)
get_map f [] i x e = absurd (cc)
get_map f (a ∷ xs) zero x e = let same : a ≡ x = cc in ap (λ z. Some (f z)) same
get_map f (a ∷ xs) (suc i) x e = get_map f xs i x e

-- ---- a seat is given once

free_if : (b : Bool) (seat agent : ℕ) → (if b then Taken else Seated seat) ≡ Seated agent → (b ≡ false) × (seat ≡ agent)
free_if true seat agent e = absurd (cc)
free_if false seat agent e = (refl, cc)

free_seat : (taken : List Bool) (seat : Option ℕ) (agent : ℕ) → seat_verdict taken seat ≡ Seated agent → slice_index_or taken agent false ≡ false
free_seat taken None agent e = absurd (cc)
free_seat taken (Some seat) agent e = let h = free_if (slice_index_or taken seat false) seat agent e in ap (λ s. slice_index_or taken s false) (sym h.1) ∙ h.0

free_word : (seats : Seats) (word : Option (List ℕ)) (agent : ℕ) → word_verdict seats word ≡ Seated agent → slice_index_or seats.taken agent false ≡ false
free_word seats None agent e = absurd (cc)
free_word seats (Some word) agent e = free_seat seats.taken (position (bytes_eq word) seats.words) agent e

-- whoever is seated takes a seat that was free
pub seat_was_free : (seats : Seats) (line : List ℕ) (agent : ℕ) → verdict_of seats line ≡ Seated agent → slice_index_or seats.taken agent false ≡ false
seat_was_free seats line agent e = free_word seats (greeting_of line) agent e

pub stays_taken : (taken : List Bool) (a b : ℕ) → slice_index_or taken a false ≡ true → slice_index_or (slice_set taken b true) a false ≡ true
stays_taken [] a b h = h
stays_taken (t ∷ taken) zero zero h = refl
stays_taken (t ∷ taken) zero (suc b) h = h
stays_taken (t ∷ taken) (suc a) zero h = h
stays_taken (t ∷ taken) (suc a) (suc b) h = stays_taken taken a b h

pub seats_stay_taken : (seats : Seats) (v : Verdict) (a : ℕ) → slice_index_or seats.taken a false ≡ true → slice_index_or (seats_after seats v).taken a false ≡ true
seats_stay_taken seats (Seated b) a h = stays_taken seats.taken a b h
seats_stay_taken seats Syntax a h = h
seats_stay_taken seats WrongWord a h = h
seats_stay_taken seats Taken a h = h
seats_stay_taken seats Lost a h = h

pub as_many_seats : (seats : Seats) (v : Verdict) → length (seats_after seats v).taken ≡ length seats.taken
as_many_seats seats (Seated b) = length-set seats.taken b true
as_many_seats seats Syntax = refl
as_many_seats seats WrongWord = refl
as_many_seats seats Taken = refl
as_many_seats seats Lost = refl

-- ---- what is kept, after a change of a place

module _ {L : Type 0} (state : L → LinkState) {X : Type 0} (Sits : Seats → ℕ → LinkState → X → Type 0) where
  -- another place was changed, since nothing sat there
  pub keeps_beside : (agent_seats : List (Option X)) (a : ℕ) (y : Option X) → slice_get agent_seats a ≡ Some None → (seats : Seats) (v : Verdict) (before : LinkState) (holder : Holder L)
      → Keeps state Sits agent_seats seats v before holder → Keeps state Sits (slice_set agent_seats a y) seats v before holder
  keeps_beside agent_seats a y none seats v before (Unseated link) k = k
  keeps_beside agent_seats a y none seats v before (Seat agent) k =
      let other : agent ≢ a = λ e. two_values k.0 (sym (sym none ∙ (ap (λ i. slice_get agent_seats i) (sym e) ∙ k.2))) in
      (k.0, k.1, get_set_other agent_seats a agent y other ∙ k.2, k.3)
    where
      two_values : (x : X) → Some (Some x) ≡ Some None → ⊥
      two_values x e = cc

  module _ (free : (seats : Seats) (agent : ℕ) (before : LinkState) (x : X) → Sits seats agent before x → slice_index_or seats.taken agent false ≡ false) where
    -- a place was emptied whose agent has its seat already
    keeps_after : (agent_seats : List (Option X)) (a : ℕ) (seats : Seats) (v : Verdict) (before : LinkState) (holder : Holder L) → slice_index_or seats.taken a false ≡ true
        → Keeps state Sits agent_seats seats v before holder → Keeps state Sits (slice_set agent_seats a None) seats v before holder
    keeps_after agent_seats a seats v before (Unseated link) taken k = k
    keeps_after agent_seats a seats v before (Seat agent) taken k =
        let other : agent ≢ a = λ e. both (ap (λ i. slice_index_or seats.taken i false) e ∙ taken) (free seats agent before k.0 k.3) in
        (k.0, k.1, get_set_other agent_seats a agent None other ∙ k.2, k.3)
      where
        both : slice_index_or seats.taken agent false ≡ true → slice_index_or seats.taken agent false ≡ false → ⊥
        both t f = cc

    emptied : (agent_seats : List (Option X)) (a : ℕ) (seats : Seats) (xs : List LinkState) (vs : List Verdict) (holders : List (Holder L)) → slice_index_or seats.taken a false ≡ true
        → HoldsInTurn (Keeps state Sits agent_seats) seats xs vs holders → HoldsInTurn (Keeps state Sits (slice_set agent_seats a None)) seats xs vs holders
    emptied agent_seats a seats xs vs holders taken all =
        follows (Keeps state Sits agent_seats) (Keeps state Sits (slice_set agent_seats a None)) (λ s. slice_index_or s.taken a false ≡ true)
        (λ s v x holder t k. seats_stay_taken s v a t) (λ s v x holder t k. keeps_after agent_seats a s v x holder t k) seats xs vs holders taken all

-- ---- links come back to their holders

now_taken : (seats : Seats) (v : Verdict) (a n : ℕ) → v ≡ Seated a → length seats.taken ≡ n → a < n → slice_index_or (seats_after seats v).taken a false ≡ true
now_taken seats v a n e size lt = ap (λ w. slice_index_or (seats_after seats w).taken a false) e ∙ get_or-set_same seats.taken a true false (omega (arith, size, lt))

module _ {L : Type 0} (state : L → LinkState) {X : Type 0} (Sits : Seats → ℕ → LinkState → X → Type 0)
    (free : (seats : Seats) (agent : ℕ) (before : LinkState) (x : X) → Sits seats agent before x → slice_index_or seats.taken agent false ≡ false) where
  -- each holder can be given its link
  pub filled : (agent_seats : List (Option X)) (seats : Seats) (xs : List LinkState) (vs : List Verdict) (holders : List (Holder L)) → length seats.taken ≡ length agent_seats
      → HoldsInTurn (Keeps state Sits agent_seats) seats xs vs holders → AreFilled agent_seats holders
  filled agent_seats seats [] [] [] size all = tt
  filled agent_seats seats [] [] (holder ∷ holders) size all = absurd all
  filled agent_seats seats [] (v ∷ vs) holders size all = absurd all
  filled agent_seats seats (x ∷ xs) [] holders size all = absurd all
  filled agent_seats seats (x ∷ xs) (v ∷ vs) [] size all = absurd all
  filled agent_seats seats (x ∷ xs) (v ∷ vs) (Unseated link ∷ holders) size all = (tt, filled agent_seats (seats_after seats v) xs vs holders (as_many_seats seats v ∙ size) all.1)
  filled agent_seats seats (x ∷ xs) (v ∷ vs) (Seat agent ∷ holders) size all =
      let taken = now_taken seats v agent (length agent_seats) all.0.1 size (slice_get_within agent_seats agent (Some all.0.0) all.0.2) in (
        (all.0.0, all.0.2),
        filled (slice_set agent_seats agent None) (seats_after seats v) xs vs holders (as_many_seats seats v ∙ (size ∙ sym (length-set agent_seats agent None)))
            (emptied state Sits free agent_seats agent (seats_after seats v) xs vs holders taken all.1),
      )

one_value : {L : Type 0} (a b : L) → Some (Some a) ≡ Some (Some b) → a ≡ b
one_value a b e = cc

-- what holds of each link that came back to its holder
pub links_hold : {L : Type 0} (state : L → LinkState) (Sits : Seats → ℕ → LinkState → L → Type 0) (Holds : Seats → Verdict → LinkState → LinkState → Type 0)
    → ((seats : Seats) (agent : ℕ) (before : LinkState) (link : L) → Sits seats agent before link → Holds seats (Seated agent) before (state link))
    → ((seats : Seats) (v : Verdict) (before after : LinkState) → IsTurnedAway seats v before after → Holds seats v before after)
    → (agent_seats : List (Option L)) (seats : Seats) (xs : List LinkState) (vs : List Verdict) (holders : List (Holder L)) (links : List L)
    → HoldsInTurn (Keeps state Sits agent_seats) seats xs vs holders → AreLinksOf agent_seats holders links → HoldsInTurn Holds seats xs vs (map state links)
links_hold state Sits Holds sits apart agent_seats seats [] [] [] [] all of = tt
links_hold state Sits Holds sits apart agent_seats seats [] [] [] (link ∷ links) all of = absurd of
links_hold state Sits Holds sits apart agent_seats seats [] [] (holder ∷ holders) links all of = absurd all
links_hold state Sits Holds sits apart agent_seats seats [] (v ∷ vs) holders links all of = absurd all
links_hold state Sits Holds sits apart agent_seats seats (x ∷ xs) [] holders links all of = absurd all
links_hold state Sits Holds sits apart agent_seats seats (x ∷ xs) (v ∷ vs) [] links all of = absurd all
links_hold state Sits Holds sits apart agent_seats seats (x ∷ xs) (v ∷ vs) (holder ∷ holders) [] all of = absurd of
links_hold state Sits Holds sits apart agent_seats seats (x ∷ xs) (v ∷ vs) (Unseated kept ∷ holders) (link ∷ links) all of = (
  apart seats v x (state link) (subst (λ l. IsTurnedAway seats v x (state l)) (sym of.0) all.0),
  links_hold state Sits Holds sits apart agent_seats (seats_after seats v) xs vs holders links all.1 of.1,
)
links_hold state Sits Holds sits apart agent_seats seats (x ∷ xs) (v ∷ vs) (Seat agent ∷ holders) (link ∷ links) all of =
    let same : all.0.0 ≡ link = one_value all.0.0 link (sym all.0.2 ∙ of.0) in (
      subst (λ w. Holds seats w x (state link)) (sym all.0.1) (sits seats agent x link (subst (λ l. Sits seats agent x l) same all.0.3)),
      links_hold state Sits Holds sits apart agent_seats (seats_after seats v) xs vs holders links all.1 of.1,
    )
