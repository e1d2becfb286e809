-- The schedule of the clock: the calls of each tick in order, each to the auction of a good. By the game description hotels close one
-- after the other, in an order that no agent knows; the calls of each tick and their order are our own rule.
use Rattle.std.specs.Prelude.{ℕ, ◌-◌, ◌/◌, ◌%◌, ◌==◌, if◌then◌else◌, List, [], ◌∷◌, ◌++◌, map, take, filter, not, get_or, flat_map}
use Rattle.std.specs.List.{list_any, enumerate_from, range_with_len}
use Rattle.tac_base.specs.declared.calls.Call.{Call}
use Rattle.tac_base.specs.declared.calls.Call.TheVariants.{Update, Publish, Close}
use Rattle.tac_base.specs.declared.limits.TheConstants.{TICKS}
use Rattle.game_text.specs.Flights.{FlightTerms}
use Rattle.game_text.specs.Games.{GameFile}

-- At each of ticks 1 to 53 a flight is updated with the game file's draw for that flight and tick: the draws are in the order of the
-- ticks.
-- Row: each_tick_has_its_own_draw (worked_rows/proofs/Ticks.antt)
abbrev pub update_of : ℕ → ℕ × FlightTerms → ℕ × Call
update_of tick (good, flight) = (good, Update tick (get_or flight.draws (tick - 1) 0))

-- the hotel nights, in the order of their numbers
abbrev pub hotel_nights : List ℕ
hotel_nights = 8 ∷ 9 ∷ 10 ∷ 11 ∷ 12 ∷ 13 ∷ 14 ∷ 15 ∷ []

-- the hotel nights that are still open after the first `turn` closings, in the order of their numbers
-- Row: first_hotel_closes_and_seven_publish (worked_rows/proofs/Ticks.antt)
unfoldable pub open_after : List ℕ → ℕ → List ℕ
open_after order turn = filter (λ good. not (list_any (λ closed. closed == good) (take turn order))) hotel_nights

-- At the closing `turn`, 1 to 8, the clock closes the next hotel night in the game file's order, and then publishes the prices of the
-- hotel nights that are still open, in the order of their numbers.
-- Row: last_hotel_closes_alone (worked_rows/proofs/Ticks.antt)
abbrev pub hotel_calls : List ℕ → ℕ → List (ℕ × Call)
hotel_calls order turn = (get_or order (turn - 1) 0, Close) ∷ map (λ good. (good, Publish)) (open_after order turn)

-- the flights, 0 to 7, and the tickets, 16 to 27, which all close at tick 54
-- Row: tickets_close_after_the_flights (worked_rows/proofs/Ticks.antt)
abbrev pub closed_last : List ℕ
closed_last = range_with_len 0 8 ++ range_with_len 16 12

-- At each of ticks 1 to 53 the clock updates the eight flights in the order of their numbers. At ticks 6, 12, .., 48 the calls to
-- hotels follow. At tick 54 it closes the flights and the ticket auctions, in the order of their numbers.
-- Row: flights_alone_are_updated_first (worked_rows/proofs/Ticks.antt)
-- Row: first_hotel_closes_and_seven_publish (worked_rows/proofs/Ticks.antt)
unfoldable pub calls_at : GameFile → ℕ → List (ℕ × Call)
calls_at game tick =
    if tick == TICKS then map (λ good. (good, Close)) closed_last
    else map (update_of tick) (enumerate_from 0 game.flights) ++ (if tick % 6 == 0 then hotel_calls game.order (tick / 6) else [])

-- the ticks, 1 to 54, in order
abbrev pub ticks : List ℕ
ticks = range_with_len 1 54

-- All calls of the clock in a game, in order: 424 updates, 8 closings of hotel nights, 28 publications and 20 other closings, 480 in
-- all. The default 0 of a draw or of a night is never used: a text that is read as a game has 53 draws for each flight, and 8 nights
-- in its closing order.
-- Row: all_calls_and_those_of_two_goods (worked_rows/proofs/Ticks.antt)
abbrev pub schedule : GameFile → List (ℕ × Call)
schedule game = flat_map (calls_at game) ticks

-- the calls to the auction of a good
abbrev pub clock_calls : GameFile → ℕ → List Call
clock_calls game good = map (λ entry. entry.1) (filter (λ entry. entry.0 == good) (schedule game))
