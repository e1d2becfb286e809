use Rattle.std.proofs.Common.{◌≡◌, ◌+◌, ◌∷◌, pos, map, take, length}
use Rattle.game_text.proofs.flights.flight_numbers.Given as goal

abbrev pub invariant-loop-i : goal.invariant-loop-i
invariant-loop-i l = record {
  count : length l.numbers ≡ 56;
  written : take (3 + l.i) l.numbers ≡ pos l.good ∷ pos l.flight.first ∷ l.flight.bound ∷ map pos (take l.i l.flight.draws);
}
