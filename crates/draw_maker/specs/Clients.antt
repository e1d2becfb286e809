-- The clients of a generated game.
use Rattle.std.specs.Prelude.{ℕ, ◌+◌, ◌%◌, List, [], ◌∷◌, map, drop, slice_index, slice_index_or}
use Rattle.tac_base.specs.Clients.{Preferences}
use Rattle.draw_maker.specs.Words.{parts}

-- the days of arrival and departure, in the order of their ranks
abbrev pub drawn_trips : List (ℕ × ℕ)
drawn_trips = (1, 2) ∷ (1, 3) ∷ (1, 4) ∷ (1, 5) ∷ (2, 3) ∷ (2, 4) ∷ (2, 5) ∷ (3, 4) ∷ (3, 5) ∷ (4, 5) ∷ []

-- the trip with a rank below 10
unfoldable pub drawn_trip : ℕ → ℕ × ℕ
drawn_trip rank = slice_index_or drawn_trips rank (0, 0)

-- 5 words: one for the trip, one for the premium, and three for the values
abbrev pub made_client : List ℕ → Preferences
made_client words = record {
  arrive = (drawn_trip (slice_index words 0 % 10)).0;
  depart = (drawn_trip (slice_index words 0 % 10)).1;
  premium = 50 + slice_index words 1 % 101;
  values = map (λ word. word % 201) (drop 2 words);
}

-- 40 words: the clients of an agent
abbrev pub made_clients : List ℕ → List Preferences
made_clients words = map made_client (parts 8 5 words)
