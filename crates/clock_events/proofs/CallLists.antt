-- Reading elements of the lists of calls.
use Rattle.std.proofs.Common.{◌≡◌, ℕ, zero, suc, ◌+◌, ◌-◌, ◌/◌, ◌%◌, ◌==◌, ◌≢◌, true, false, if◌then◌else◌, ◌≤◌, ◌<◌, List, [], ◌∷◌, ◌++◌, length, map, get_or, slice_get, slice_index_or, Some, None, refl, sym, ap, ◌∙◌, arith, subst, option_map}
use Rattle.std.proofs.lemmas.Option.{slice_get-map, slice_get-get_or}
use Rattle.std.specs.List.{enumerate_from}
use Rattle.std.proofs.lemmas.List.FromFn.{length-enumerate_from, get_or-enumerate_from}
use Rattle.std.proofs.lemmas.List.{length-map}
use Rattle.clock_events.specs.Prelude.{Call, Update, Publish, Close, FlightTerms, GameFile, update_of, closed_last, open_after, hotel_calls, calls_at}
use Rattle.std.proofs.lemmas.Bool.Decides.{nat_tests}

abbrev pub publication_of : ℕ → ℕ × Call
publication_of good = (good, Publish)

abbrev pub closing_of : ℕ → ℕ × Call
closing_of good = (good, Close)

-- the calls of a tick after the updates
abbrev pub hotel_calls_at : List ℕ → ℕ → List (ℕ × Call)
hotel_calls_at order tick = if tick % 6 == 0 then hotel_calls order (tick / 6) else []

pub publication_at : (order : List ℕ) (turn n good d : ℕ) → 1 ≤ n → n - 1 < length (open_after order turn) → good ≡ slice_index_or (open_after order turn) (n - 1) d → Some (publication_of good) ≡ slice_get (hotel_calls order turn) n
publication_at order turn zero good d first within at = absurd (omega (arith, first))
publication_at order turn (suc n) good d first within at =
    let e : suc n - 1 ≡ n = omega arith in
    sym (slice_get-map publication_of (open_after order turn) n
    ∙ ap (option_map publication_of) (slice_get-get_or (open_after order turn) n d (subst (λ k. k < length (open_after order turn)) e within))
    ∙ ap (λ k. Some (publication_of (slice_index_or (open_after order turn) k d))) (sym e)
    ∙ ap (λ g. Some (publication_of g)) (sym at))

module _ {X : Type 0} where
  pub get_in_front : (xs ys : List X) (i : ℕ) → i < length xs → slice_get (xs ++ ys) i ≡ slice_get xs i
  get_in_front [] ys i within = absurd (omega (arith, within))
  get_in_front (x ∷ xs) ys zero within = refl
  get_in_front (x ∷ xs) ys (suc i) within = get_in_front xs ys i (omega (arith, within))

  pub get_behind : (xs ys : List X) (i : ℕ) → slice_get (xs ++ ys) (length xs + i) ≡ slice_get ys i
  get_behind [] ys i = let e : 0 + i ≡ i = omega arith in ap (slice_get ys) e
  get_behind (x ∷ xs) ys i = let e : suc (length xs) + i ≡ suc (length xs + i) = omega arith in ap (slice_get (x ∷ xs ++ ys)) e ∙ get_behind xs ys i

module _ (flights : List FlightTerms) (tick : ℕ) (rest : List (ℕ × Call)) where
  abbrev pub updates : List (ℕ × Call)
  updates = map (update_of tick) (enumerate_from 0 flights)

  one_for_each : length updates ≡ length flights
  one_for_each = length-map (enumerate_from 0 flights) (update_of tick) ∙ length-enumerate_from 0 flights

  -- the n-th call is the update of flight n
  pub update_at : (n : ℕ) (d : FlightTerms) → n < length flights → slice_get (updates ++ rest) n ≡ Some (n, Update tick (get_or (get_or flights n d).draws (tick - 1) 0))
  update_at n d within =
      let zero_plus : 0 + n ≡ n = omega arith in
      get_in_front updates rest n (subst (λ k. n < k) (sym one_for_each) within)
      ∙ slice_get-map (update_of tick) (enumerate_from 0 flights) n
      ∙ ap (option_map (update_of tick)) (slice_get-get_or (enumerate_from 0 flights) n (0, d) (subst (λ k. n < k) (sym (length-enumerate_from 0 flights)) within)
      ∙ ap Some (get_or-enumerate_from 0 flights n (0, d) within))
      ∙ ap (λ k. Some (k, Update tick (get_or (get_or flights n d).draws (tick - 1) 0))) zero_plus

  -- what comes after the updates
  pub past_updates : (n : ℕ) → length flights ≤ n → slice_get (updates ++ rest) n ≡ slice_get rest (n - length flights)
  past_updates n past =
      let e : n ≡ length flights + (n - length flights) = omega (arith, past) in
      ap (slice_get (updates ++ rest)) (e ∙ ap (λ k. k + (n - length flights)) (sym one_for_each))
      ∙ get_behind updates rest (n - length flights)

module _ (game : GameFile) (tick n : ℕ) where
  pub last_calls : tick ≡ 54 → slice_get (map closing_of closed_last) n ≡ slice_get (calls_at game tick) n
  unfolding calls_at
  last_calls last = let e : (tick == 54) ≡ true = grind (arith, nat_tests, last) in rw (e) refl

  pub flight_call : (d : FlightTerms) → tick ≢ 54 → n < length game.flights → Some (n, Update tick (get_or (get_or game.flights n d).draws (tick - 1) 0)) ≡ slice_get (calls_at game tick) n
  unfolding calls_at
  flight_call d early within = let e : (tick == 54) ≡ false = grind (arith, nat_tests, early) in rw (e) (sym (update_at game.flights tick (hotel_calls_at game.order tick) n d within))

  after_flights : tick ≢ 54 → length game.flights ≤ n → slice_get (hotel_calls_at game.order tick) (n - length game.flights) ≡ slice_get (calls_at game tick) n
  unfolding calls_at
  after_flights early past = let e : (tick == 54) ≡ false = grind (arith, nat_tests, early) in rw (e) (sym (past_updates game.flights tick (hotel_calls_at game.order tick) n past))

  pub hotel_call_at : (turn : ℕ) → tick ≢ 54 → length game.flights ≡ 8 → 8 ≤ n → tick % 6 ≡ 0 → turn ≡ tick / 6 → slice_get (hotel_calls game.order turn) (n - 8) ≡ slice_get (calls_at game tick) n
  hotel_call_at turn early count past sixth is =
      let e : (tick % 6 == 0) ≡ true = grind (arith, nat_tests, sixth) in
      let calls : hotel_calls game.order (tick / 6) ≡ hotel_calls_at game.order tick = rw (e) refl in
      ap (λ k. slice_get (hotel_calls game.order k) (n - 8)) is
      ∙ ap (λ xs. slice_get xs (n - 8)) calls
      ∙ ap (λ k. slice_get (hotel_calls_at game.order tick) (n - k)) (sym count)
      ∙ after_flights early (subst (λ k. k ≤ n) (sym count) past)

  pub no_call : tick ≢ 54 → length game.flights ≤ n → tick % 6 ≢ 0 → None ≡ slice_get (calls_at game tick) n
  no_call early past other =
      let e : (tick % 6 == 0) ≡ false = grind (arith, nat_tests, other) in
      let calls : [] ≡ hotel_calls_at game.order tick = rw (e) refl in
      ap (λ xs. slice_get xs (n - length game.flights)) calls ∙ after_flights early past
