pub mod Prelude
pub mod Faults
pub mod SeatWords
pub mod Padding
pub mod Flights
pub mod ClosingOrders
pub mod HotelNights
pub mod Endowments
pub mod ClientLines
pub mod Headers
pub mod AgentLines
pub mod Accounts
pub mod Games
pub mod OneAgent
pub mod Schedule
pub mod QuietGames
pub use Rattle.game_text.specs.SeatWords.{AreSeats, IsPadded, numbered_seats, seats_text, are_distinct, is_seat_byte, is_seat_word, seats_of_words}
unfoldable pub use Rattle.game_text.specs.SeatWords.{seats_of}
pub use Rattle.game_text.specs.Padding.{padded_again}
pub use Rattle.game_text.specs.Flights.{FlightTerms, IsFlight, flight_text, any, bound_column, flight_columns, flight_from, flight_numbers}
unfoldable pub use Rattle.game_text.specs.Flights.{flight_of}
pub use Rattle.game_text.specs.ClosingOrders.{IsOrder, order_text, is_distinct, order_columns, order_from}
unfoldable pub use Rattle.game_text.specs.ClosingOrders.{order_of}
pub use Rattle.game_text.specs.HotelNights.{night_lines, AreNights, plain_nights, quotes_of_words, quotes_text, room_columns, rooms_from, rooms_text}
unfoldable pub use Rattle.game_text.specs.HotelNights.{nights_in, quotes_of, read_rooms}
pub use Rattle.game_text.specs.Endowments.{IsEndowment, endow_text, endow_columns, endow_from}
unfoldable pub use Rattle.game_text.specs.Endowments.{endow_of}
pub use Rattle.game_text.specs.ClientLines.{client_numbers, client_text, client_columns, client_from, natural_at}
unfoldable pub use Rattle.game_text.specs.ClientLines.{client_of}
pub use Rattle.game_text.specs.Headers.{header_text, nothing_from, header_of_words}
unfoldable pub use Rattle.game_text.specs.Headers.{header_of, read_end_line}
pub use Rattle.game_text.specs.AgentLines.{AreAgents, AreClients, agents_lines, client_lines, agent_part, client_part, endow_part}
unfoldable pub use Rattle.game_text.specs.AgentLines.{agents_in}
pub use Rattle.game_text.specs.Games.{GameFile, IsGame, canonical_text, nights_of, IsTextOf, agents_of, flight_part, game_lines}
unfoldable pub use Rattle.game_text.specs.Games.{game_in, game_of}
pub use Rattle.game_text.specs.OneAgent.{agent_line, lines_of_agent}
pub use Rattle.game_text.specs.Schedule.{hotel_nights}
pub use Rattle.game_text.specs.Prelude.{AllBetween, AreLinesLeft, BadLine, IsBetween, IsClient, Keyword, NotDue, OutOfRange, Preferences, Reason, Remaining, Repeated, Spelling, TEXT_BYTES, WordCount, all_in, is_in, lines_from, lines_of_parts, nothing_left, one_line, parts_of, read_by, row_text, text_of, within, words_of, ◌>>=◌}
unfoldable pub use Rattle.game_text.specs.Prelude.{repeat, row}
