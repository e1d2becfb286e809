-- A client that is made of five words is in the ranges of the game.
use Rattle.std.proofs.Common.{◌≡◌, ℕ, ◌%◌, ◌≤◌, ◌<◌, List, length, drop, get_or, lit<, lit≤, arith, slice_index, All, mod-lt, length-drop}
use Rattle.std.proofs.lemmas.List.{length-map}
use Rattle.std.proofs.lemmas.List.Elements.{All-from_recursion, All-get_or, All-map}
use Rattle.tac_base.specs.Clients.{IsClient}
use Rattle.draw_maker.specs.Clients.{drawn_trips, drawn_trip, made_client}

-- a day of arrival, and a later day of departure
record IsTrip (trip : ℕ × ℕ) : Type 0 where
  first : 1 ≤ trip.0
  last : trip.0 ≤ 4
  later : trip.0 < trip.1
  departs : trip.1 ≤ 5

trip : (arrive depart : ℕ) → 1 ≤ arrive → arrive ≤ 4 → arrive < depart → depart ≤ 5 → IsTrip (arrive, depart)
trip arrive depart first last later departs = record { first = first; last = last; later = later; departs = departs }

trips_range : All IsTrip drawn_trips
trips_range =
    All-from_recursion IsTrip drawn_trips (
      trip 1 2 (lit≤ tt) (lit≤ tt) (lit< tt) (lit≤ tt),
      (
        trip 1 3 (lit≤ tt) (lit≤ tt) (lit< tt) (lit≤ tt),
        (
          trip 1 4 (lit≤ tt) (lit≤ tt) (lit< tt) (lit≤ tt),
          (
            trip 1 5 (lit≤ tt) (lit≤ tt) (lit< tt) (lit≤ tt),
            (
              trip 2 3 (lit≤ tt) (lit≤ tt) (lit< tt) (lit≤ tt),
              (
                trip 2 4 (lit≤ tt) (lit≤ tt) (lit< tt) (lit≤ tt),
                (
                  trip 2 5 (lit≤ tt) (lit≤ tt) (lit< tt) (lit≤ tt),
                  (
                    trip 3 4 (lit≤ tt) (lit≤ tt) (lit< tt) (lit≤ tt),
                    (
                      trip 3 5 (lit≤ tt) (lit≤ tt) (lit< tt) (lit≤ tt),
                      (
                        trip 4 5 (lit≤ tt) (lit≤ tt) (lit< tt) (lit≤ tt),
                        tt,
                      ),
                    ),
                  ),
                ),
              ),
            ),
          ),
        ),
      ),
    )

trip_range : (rank : ℕ) → rank < 10 → IsTrip (drawn_trip rank)
unfolding drawn_trip
trip_range rank below = All-get_or IsTrip drawn_trips rank (0, 0) below trips_range

pub client_range : (words : List ℕ) → length words ≡ 5 → IsClient (made_client words)
client_range words count =
    let days = trip_range (slice_index words 0 % 10) (mod-lt (slice_index words 0) (lit< tt)) in
    let extra : slice_index words 1 % 101 < 101 = mod-lt (slice_index words 1) (lit< tt) in
    record {
      arrives_first = days.first;
      arrives_last = days.last;
      departs_later = days.later;
      departs_last = days.departs;
      premium_low = omega arith;
      premium_high = omega (arith, extra);
      three = omega (arith, length-map (drop 2 words) (λ (word : ℕ). word % 201), length-drop 2 words, count);
      values_high = All-map (λ value. value ≤ 200) (λ word. word % 201) (drop 2 words) (λ k d inside. let below = mod-lt (get_or (drop 2 words) k d) {m = 201} (lit< tt) in omega (arith, below));
    }
