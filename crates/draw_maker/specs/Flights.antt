-- The flights of a generated game.
use Rattle.std.specs.Prelude.{ℕ, ◌+◌, ◌%◌, List, pos, ◌-ℤ◌, slice_index, drop}
use Rattle.game_text.specs.Flights.{FlightTerms}

-- 55 words: one for the first price, one for the bound, and the 53 draws themselves
abbrev pub made_flight : List ℕ → FlightTerms
made_flight words = record {
  first = 250 + slice_index words 0 % 151;
  bound = pos (slice_index words 1 % 41) -ℤ pos 10;
  draws = drop 2 words;
}
