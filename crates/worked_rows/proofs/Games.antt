-- Refused lines and texts, one for each reason, evaluated by the definitions.
use Rattle.std.proofs.Common.{◌≡◌, true, false, ◌∷◌, [], length, slice_get, Some, Ok, Err, refl, codes}
use Rattle.std.specs.Fmt.{digits}
use Rattle.tac_base.specs.Numerals.{numeral}
use Rattle.text_forms.specs.declared.lines.Reason.TheVariants.{Keyword, WordCount, Spelling, OutOfRange, NotDue, Repeated}
use Rattle.text_forms.specs.Rows.{row}
use Rattle.game_text.specs.declared.fault.GameFault.TheVariants.{Line}
use Rattle.game_text.specs.SeatWords.{seats_of}
use Rattle.game_text.specs.Flights.{flight_of}
use Rattle.game_text.specs.ClosingOrders.{order_of}
use Rattle.game_text.specs.Endowments.{endow_of}
use Rattle.game_text.specs.ClientLines.{client_of}
use Rattle.game_text.specs.Headers.{header_of, read_end_line}
use Rattle.game_text.specs.HotelNights.{read_rooms, quotes_of}
use Rattle.game_text.specs.Games.{upgraded, game_lines, game_in, game_of}
use Rattle.game_text.specs.QuietGames.{quiet_game}

first_bad_line_is_told : (game_of (codes "tic 1\nwords") ≡ Err (Line 1 1))
    × (game_of (codes "# a\n\ntac 1\nseats\n") ≡ Err (Line 4 1))
    × (game_of (codes "tac 1\n# a") ≡ Err (Line 2 7))
    × (game_of (codes "# a\n\ntac 1") ≡ Err (Line 3 7))
    × (game_of (codes "tac 1\n\n") ≡ Err (Line 3 7))
    × (game_of [] ≡ Err (Line 1 7))
unfolding game_of game_in header_of seats_of
first_bad_line_is_told = (refl, refl, refl, refl, refl, refl)

lines_of_version_and_end : (header_of (codes "tac 1") ≡ Ok 1)
    × (header_of (codes "tac 2") ≡ Ok 2)
    × (header_of (codes "tac 3") ≡ Err Keyword)
    × (header_of (codes "tac") ≡ Err WordCount)
    × (header_of (codes "tac ") ≡ Err Keyword)
    × (header_of (codes "tac 1 ") ≡ Err WordCount)
    × (header_of (codes " ") ≡ Err Keyword)
    × (read_end_line (codes "end 1") ≡ Err WordCount)
unfolding header_of read_end_line row
lines_of_version_and_end = (refl, refl, refl, refl, refl, refl, refl, refl)

refused_seat_words_and_flights : (seats_of (codes "words a b c d e f g") ≡ Err WordCount)
    × (seats_of (codes "words a b c d  e f g") ≡ Err Spelling)
    × (seats_of (codes "words a a c d E f g h") ≡ Err Spelling)
    × (seats_of (codes "words a b c d e f g a") ≡ Err Repeated)
    × (flight_of 0 (codes "flight 0 300 10 1 2 3") ≡ Err WordCount)
unfolding seats_of flight_of row
refused_seat_words_and_flights = (refl, refl, refl, refl, refl)

refused_closing_orders : (order_of (codes "close 08 9 10 11 12 13 14 15") ≡ Err Spelling)
    × (order_of (codes "close -8 9 10 11 12 13 14 15") ≡ Err Spelling)
    × (order_of (codes "close 7 9 10 11 12 13 14 9") ≡ Err OutOfRange)
    × (order_of (codes "close 8 9 10 11 12 13 14 14") ≡ Err Repeated)
unfolding order_of row numeral
refused_closing_orders = (refl, refl, refl, refl)

rooms_and_quotes_with_their_limits : (read_rooms (codes "rooms 1 16 16 16 16 16 16 64") ≡ Ok (1 ∷ 16 ∷ 16 ∷ 16 ∷ 16 ∷ 16 ∷ 16 ∷ 64 ∷ []))
    × (read_rooms (codes "rooms 0 16 16 16 16 16 16 16") ≡ Err OutOfRange)
    × (read_rooms (codes "rooms 16 16 16 16 16 16 16 65") ≡ Err OutOfRange)
    × (read_rooms (codes "rooms 16 16 16 16 16 16 16") ≡ Err WordCount)
    × (quotes_of (codes "quotes live") ≡ Ok true)
    × (quotes_of (codes "quotes minute") ≡ Ok false)
    × (quotes_of (codes "quotes often") ≡ Err Spelling)
    × (quotes_of (codes "quotes live ") ≡ Err WordCount)
unfolding read_rooms row numeral quotes_of
rooms_and_quotes_with_their_limits = (refl, refl, refl, refl, refl, refl, refl, refl)

-- a game of version 1 as one of version 2
upgraded_game_has_two_more_lines : (length (game_lines (upgraded quiet_game)) ≡ 86)
    × (slice_get (game_lines (upgraded quiet_game)) 11 ≡ Some (codes "rooms 16 16 16 16 16 16 16 16"))
    × (slice_get (game_lines (upgraded quiet_game)) 12 ≡ Some (codes "quotes minute"))
unfolding quiet_game digits
upgraded_game_has_two_more_lines = (refl, refl, refl)

-- a number that is out of its range is told before an agent or a client that is not due
lines_of_agents_and_clients : (endow_of 0 (codes "endow 1 0 0 0 0 0 0 0 0 0 0 0 17") ≡ Err OutOfRange)
    × (endow_of 0 (codes "endow 1 0 0 0 0 0 0 0 0 0 0 0 16") ≡ Err NotDue)
    × (client_of 0 0 (codes "client 0 0 1 2 100 0 0 100") ≡ Ok (record { arrive = 1; depart = 2; premium = 100; values = 0 ∷ 0 ∷ 100 ∷ [] }))
    × (client_of 0 0 (codes "client 0 0 2 2 100 0 0 100") ≡ Err OutOfRange)
    × (client_of 0 0 (codes "client 1 1 2 2 100 0 0 100") ≡ Err OutOfRange)
    × (client_of 0 0 (codes "client 0 1 1 2 100 0 0 100") ≡ Err NotDue)
    × (client_of 0 0 (codes "client 0 4294967295 1 2 100 0 0 100") ≡ Err NotDue)
    × (client_of 0 0 (codes "client 4294967296 0 1 2 100 0 0 100") ≡ Err OutOfRange)
    × (client_of 0 0 (codes "client 42949672960 0 9 2 100 0 0 100") ≡ Err Spelling)
unfolding endow_of client_of row numeral
lines_of_agents_and_clients = (refl, refl, refl, refl, refl, refl, refl, refl, refl)
