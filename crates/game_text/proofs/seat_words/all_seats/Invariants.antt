use Rattle.std.proofs.Common.{◌≡◌, ◌++◌, length, take, true}
use Rattle.std.specs.List.{list_all}
use Rattle.game_text.specs.SeatWords as seats
use Rattle.game_text.proofs.seat_words.all_seats.Given as goal

abbrev pub invariant-loop-i : goal.invariant-loop-i
invariant-loop-i l = record {
  count : length l.seats ≡ 8;
  words : take l.i l.seats ++ l.words ≡ l.fn.words;
  form : list_all seats.is_seat_word (take l.i l.seats) ≡ true;
}
