-- The quiet game: flights stay at 300 dollars, nobody has a ticket at the start, hotels close in ascending order, and each client
-- prefers to come on day 1 and leave on day 2, with a value of 100 dollars for the better hotel and for the museum.
use Rattle.std.specs.Prelude.{[], ◌∷◌, false, pos, replicate}
use Rattle.game_text.specs.Prelude.{AGENTS, FLIGHT_DRAWS, Preferences}
use Rattle.game_text.specs.SeatWords.{numbered_seats}
use Rattle.game_text.specs.Flights.{FlightTerms}
use Rattle.game_text.specs.Games.{GameFile}
use Rattle.game_text.specs.Schedule.{hotel_nights}

-- with bound 10 a draw of 10 changes nothing
abbrev pub quiet_flight : FlightTerms
quiet_flight = record { first = 300; bound = pos 10; draws = replicate FLIGHT_DRAWS 10 }

abbrev pub quiet_client : Preferences
quiet_client = record { arrive = 1; depart = 2; premium = 100; values = 0 ∷ 0 ∷ 100 ∷ [] }

unfoldable pub quiet_game : GameFile
quiet_game = record {
  version = 1;
  words = numbered_seats;
  flights = replicate 8 quiet_flight;
  order = hotel_nights;
  rooms = replicate 8 16;
  live = false;
  endow = replicate AGENTS (replicate 12 0);
  clients = replicate AGENTS (replicate 8 quiet_client);
}
