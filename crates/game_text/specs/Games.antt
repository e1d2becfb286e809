-- The game file, which is our own form.
use Rattle.std.specs.Prelude.{◌≡◌, ℕ, ◌≤◌, Bool, nat_lt, if◌then◌else◌, List, [], ◌∷◌, ◌++◌, true, Result, Ok, Err, length, codes, All}
use Rattle.tac_base.specs.Clients.{Preferences}
use Rattle.tac_base.specs.declared.limits.TheConstants.{GAME_BYTES}
use Rattle.text_forms.specs.declared.lines.BadLine.{BadLine}
use Rattle.text_forms.specs.Words.{parts_of}
use Rattle.text_forms.specs.Lines.{Remaining, lines_from, nothing_left, text_of, AreLinesLeft}
use Rattle.text_forms.specs.Steps.{◌>>=◌, read_by, repeat, lines_of_parts, one_line}
use Rattle.game_text.specs.declared.fault.GameFault.{GameFault}
use Rattle.game_text.specs.declared.fault.GameFault.TheVariants.{TooLong}
use Rattle.game_text.specs.Faults.{or_game_fault}
use Rattle.game_text.specs.SeatWords.{AreSeats, seats_of, seats_text}
use Rattle.game_text.specs.Flights.{FlightTerms, IsFlight, flight_of, flight_text}
use Rattle.game_text.specs.ClosingOrders.{IsOrder, order_of, order_text}
use Rattle.game_text.specs.declared.agents.Agents.{Agents}
use Rattle.game_text.specs.AgentLines.{AreAgents, agents_in, agents_lines}
use Rattle.game_text.specs.declared.hotel_nights.HotelNights.{HotelNights}
use Rattle.game_text.specs.HotelNights.{AreNights, nights_in, night_lines}
use Rattle.game_text.specs.Headers.{header_of, header_text, read_end_line}

-- What a game file fixes for a game. Its lists have the lengths named below: a text with others is not a game file.
pub record GameFile : Type 0 where
  -- 1 or 2
  pub version : ℕ
  -- the eight different seat words, in the order of the agents
  pub words : List (List ℕ)
  -- the eight flights, goods 0 to 7 in order
  pub flights : List FlightTerms
  -- the eight hotel nights, goods 8 to 15, in the order in which they close
  pub order : List ℕ
  -- how many rooms each hotel night has, goods 8 to 15 in order
  pub rooms : List ℕ
  -- whether hotel quotes are live
  pub live : Bool
  -- of each agent, how many tickets of goods 16 to 27 it has at the start
  pub endow : List (List ℕ)
  -- of each agent, its eight clients
  pub clients : List (List Preferences)

-- the part of it for the hotel nights
abbrev pub nights_of : GameFile → HotelNights
nights_of game = record { rooms = game.rooms; live = game.live }

-- the part of it for the agents
abbrev pub agents_of : GameFile → Agents
agents_of game = record { endow = game.endow; clients = game.clients }

-- the same game in version 2
abbrev pub upgraded : GameFile → GameFile
upgraded game = record game { version = 2 }

-- a game in its ranges
pub record IsGame (game : GameFile) : Type 0 where
  pub version_low : 1 ≤ game.version
  pub version_high : game.version ≤ 2
  pub words : AreSeats game.words
  pub flight_count : length game.flights ≡ 8
  pub flights : All IsFlight game.flights
  pub order : IsOrder game.order
  pub nights : AreNights game.version (nights_of game)
  pub agents : AreAgents (agents_of game)

-- ---- the lines of a game

-- the canonical lines
abbrev pub game_lines : GameFile → List (List ℕ)
game_lines game =
    header_text game.version ∷ seats_text game.words ∷ []
    ++ (lines_of_parts (one_line flight_text) 0 game.flights
    ++ (order_text game.order ∷ []
    ++ (night_lines game.version (nights_of game)
    ++ (agents_lines (agents_of game)
    ++ codes "end" ∷ []))))

-- the canonical text
abbrev pub canonical_text : GameFile → List ℕ
canonical_text game = text_of (game_lines game)

-- a text of a game: its lines that are neither empty nor comments are the canonical ones, each with its line end
abbrev pub IsTextOf : GameFile → List ℕ → Type 0
IsTextOf game text = AreLinesLeft (game_lines game) (lines_from true 1 (parts_of 10 text))

-- ---- the first bad line

-- the line of a flight, read as a part of the file
abbrev pub flight_part : ℕ → Remaining → Result (FlightTerms × Remaining) BadLine
flight_part good left = read_by (flight_of good) left

-- the game in the lines of a text, each line read by its form in turn
unfoldable pub game_in : Remaining → Result GameFile BadLine
game_in left = do
  header ← read_by header_of left
  words ← read_by seats_of header.1
  flights ← repeat 8 0 flight_part words.1
  order ← read_by order_of flights.1
  nights ← nights_in header.0 order.1
  agents ← agents_in nights.1
  end ← read_by read_end_line agents.1
  done ← nothing_left end.1
  Ok (record { version = header.0; words = words.0; flights = flights.0; order = order.0; rooms = nights.0.rooms; live = nights.0.live; endow = agents.0.endow; clients = agents.0.clients })

-- the game that a text describes, or why the text is refused
unfoldable pub game_of : List ℕ → Result GameFile GameFault
game_of text = if nat_lt GAME_BYTES (length text) then Err TooLong else or_game_fault (game_in (lines_from true 1 (parts_of 10 text)))
