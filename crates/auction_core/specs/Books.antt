-- What the book of an auction means, whatever the kind of its good.
use Rattle.std.specs.Prelude.{ℕ, List, ℤ, map}
use Rattle.auction_core.specs.Prelude.{parties, Setup, holding}
use Rattle.auction_rules.specs.History.{Entry}
use Rattle.flight_auction.specs.Book as flights
use Rattle.hotel_book.specs.Book as hotels
use Rattle.ticket_book.specs.Book as tickets
use Rattle.auction_core.specs.declared.book.Book.{Book}
use Rattle.auction_core.specs.declared.book.Book.TheVariants.{Flight, Hotel, Tickets}

-- the book stands for this past of an auction with this setup
abbrev pub Stands : Book → Setup → List Entry → Type 0
Stands (Flight book) setup past = flights.FlightStandsFor book setup past
Stands (Hotel book) setup past = hotels.HotelStandsFor book setup past
Stands (Tickets book) setup past = tickets.TicketsStandFor book setup past

-- how many units the calls of the clock alone may still trade
abbrev pub units_left : Book → ℕ
units_left (Flight book) = flights.flight_units_left book
units_left (Hotel book) = hotels.hotel_units_left book
units_left (Tickets book) = 0

-- the holdings of all parties after a past
abbrev pub held_by : Setup → List Entry → List ℤ
held_by setup past = map (holding setup past) parties
