-- A game that is made of words is in the ranges of the game file.
use Rattle.std.proofs.Common.{◌≡◌, ℕ, ◌%◌, ◌<◌, List, length, drop, take, get_or, refl, lit<, lit≤, arith, slice_index, mod-lt, length-drop}
use Rattle.std.proofs.lemmas.Int.{ints}
use Rattle.std.proofs.lemmas.List.{length-map}
use Rattle.std.proofs.lemmas.List.Elements.{All-map, All-weaker, All-drop}
use Rattle.text_forms.specs.Rows.{IsBetween, AllBetween}
use Rattle.draw_maker.specs.Prelude.{IsFlight, IsClient, IsGame, agents_of}
use Rattle.game_text.specs.Endowments.{IsEndowment}
use Rattle.game_text.specs.AgentLines.{AreClients, AreAgents}
use Rattle.game_text.proofs.HotelNightLaws.{plain_are}
use Rattle.draw_maker.specs.Words.{parts}
use Rattle.draw_maker.specs.Flights.{made_flight}
use Rattle.draw_maker.specs.Endowments.{made_endowment}
use Rattle.draw_maker.specs.Clients.{made_client, made_clients}
use Rattle.draw_maker.specs.Games.{game_of_words}
use Rattle.draw_maker.proofs.WordRanges.{IsPart, length-parts, parts_range}
use Rattle.draw_maker.proofs.Exchanges.{order_range}
use Rattle.draw_maker.proofs.ClientRanges.{client_range}

pub flight_range : (words : List ℕ) → IsPart 55 words → IsFlight (made_flight words)
flight_range words part =
    let first : slice_index words 0 % 151 < 151 = mod-lt (slice_index words 0) (lit< tt) in
    let bound : slice_index words 1 % 41 < 41 = mod-lt (slice_index words 1) (lit< tt) in
    record {
      first_low = omega arith;
      first_high = omega (arith, first);
      bound_low = omega (arith, ints);
      bound_high = omega (arith, ints, bound);
      count = omega (arith, length-drop 2 words, part.count);
      draws = All-drop (IsBetween 0 4294967295) 2 words part.range;
    }

endowment_range : (words : List ℕ) → IsPart 12 words → IsEndowment (made_endowment words)
endowment_range words part = record {
  count = omega (arith, length-map words (λ (word : ℕ). word % 3), part.count);
  range = All-map (IsBetween 0 16) (λ word. word % 3) words (λ k d inside. let below = mod-lt (get_or words k d) {m = 3} (lit< tt) in (omega arith, omega (arith, below)));
}

clients_range : (words : List ℕ) → IsPart 40 words → AreClients (made_clients words)
clients_range words part =
    let each = parts_range 8 5 words (omega (arith, part.count)) part.range in
    record {
      count = omega (arith, length-map (parts 8 5 words) made_client, length-parts 8 5 words);
      each = All-map IsClient made_client (parts 8 5 words) (All-weaker (IsPart 5) (λ p. IsClient (made_client p)) (λ p is. client_range p is.count) (parts 8 5 words) each);
    }

agents_range : (words : List ℕ) → length words ≡ 863 → AllBetween 0 4294967295 words → AreAgents (agents_of (game_of_words words))
unfolding game_of_words
agents_range words count range =
    let tickets = drop 447 words in
    let wishes = drop 543 words in
    let endow = parts_range 8 12 tickets (omega (arith, count, length-drop 447 words)) (All-drop (IsBetween 0 4294967295) 447 words range) in
    let clients = parts_range 8 40 wishes (omega (arith, count, length-drop 543 words)) (All-drop (IsBetween 0 4294967295) 543 words range) in
    record {
      endow_count = omega (arith, length-map (parts 8 12 tickets) made_endowment, length-parts 8 12 tickets);
      endow = All-map IsEndowment made_endowment (parts 8 12 tickets) (All-weaker (IsPart 12) (λ p. IsEndowment (made_endowment p)) endowment_range (parts 8 12 tickets) endow);
      client_count = omega (arith, length-map (parts 8 40 wishes) made_clients, length-parts 8 40 wishes);
      clients = All-map AreClients made_clients (parts 8 40 wishes) (All-weaker (IsPart 40) (λ p. AreClients (made_clients p)) clients_range (parts 8 40 wishes) clients);
    }

pub game_range : (words : List ℕ) → length words ≡ 863 → AllBetween 0 4294967295 words → IsGame (game_of_words words)
unfolding game_of_words
game_range words count range =
    let flights = parts_range 8 55 words (omega (arith, count)) range in
    record {
      version_low = lit≤ tt;
      version_high = lit≤ tt;
      words = record { count = refl; form = refl; apart = refl };
      flight_count = omega (arith, length-map (parts 8 55 words) made_flight, length-parts 8 55 words);
      flights = All-map IsFlight made_flight (parts 8 55 words) (All-weaker (IsPart 55) (λ p. IsFlight (made_flight p)) flight_range (parts 8 55 words) flights);
      order = order_range (take 7 (drop 440 words));
      nights = plain_are;
      agents = agents_range words count range;
    }
