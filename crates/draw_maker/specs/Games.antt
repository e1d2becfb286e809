-- The game that a seed gives.
use Rattle.std.specs.Prelude.{ℕ, List, false, map, replicate, take, drop}
use Rattle.draw_maker.specs.Prelude.{AGENTS, numbered_seats, GameFile}
use Rattle.draw_maker.specs.Words.{generator, next_words, parts}
use Rattle.draw_maker.specs.Flights.{made_flight}
use Rattle.draw_maker.specs.ClosingOrders.{made_order}
use Rattle.draw_maker.specs.Endowments.{made_endowment}
use Rattle.draw_maker.specs.Clients.{made_clients}

-- the numbered seat words, which need no word, and 863 words: 55 for each flight, 7 for the closing order, 12 for each endowment and 40 for the clients of each agent
unfoldable pub game_of_words : List ℕ → GameFile
game_of_words words = record {
  version = 1;
  words = numbered_seats;
  flights = map made_flight (parts 8 55 words);
  order = made_order (take 7 (drop 440 words));
  rooms = replicate 8 16;
  live = false;
  endow = map made_endowment (parts AGENTS 12 (drop 447 words));
  clients = map made_clients (parts AGENTS 40 (drop 543 words));
}

-- the game of the first words on stream 54
abbrev pub made_game : ℕ → GameFile
made_game seed = game_of_words (next_words 863 (generator seed 54))
