use Rattle.std.proofs.Common.{◌≡◌, drop}
use Rattle.game_text.specs.SeatWords as seats
use Rattle.game_text.proofs.seat_words.are_distinct.Given as goal

abbrev pub invariant-loop-i : goal.invariant-loop-i
invariant-loop-i l = seats.are_distinct (drop l.i l.words) ≡ seats.are_distinct l.words
