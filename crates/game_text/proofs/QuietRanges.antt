-- The quiet game is in its ranges.
use Rattle.std.proofs.Common.{◌≡◌, false, ℕ, ◌≤◌, List, [], ◌∷◌, pos, refl, lit<, lit≤, map, replicate}
use Rattle.std.proofs.lemmas.List.Elements.{All-nil, All-cons, All-replicate}
use Rattle.tac_base.specs.Clients.{IsClient}
use Rattle.text_forms.proofs.Columns.{columns_within}
use Rattle.game_text.specs.{AreSeats, numbered_seats, IsFlight, IsOrder, IsEndowment, AreClients, IsGame, hotel_nights}
use Rattle.game_text.proofs.HotelNightLaws.{plain_are}
use Rattle.game_text.specs.QuietGames.{quiet_client, quiet_flight, quiet_game}

pub seats : AreSeats numbered_seats
seats = record { count = refl; form = refl; apart = refl }

pub flight : IsFlight quiet_flight
flight = record {
  first_low = lit≤ tt;
  first_high = lit≤ tt;
  bound_low = search;
  bound_high = search;
  count = refl;
  draws = (columns_within 53 0 4294967295 (map pos (replicate 53 10)) (lit≤ tt) refl).range;
}

nights : IsOrder hotel_nights
nights = record { count = refl; range = (columns_within 8 8 15 (map pos hotel_nights) (lit≤ tt) refl).range; apart = refl }

nothing : IsEndowment (replicate 12 0)
nothing = record { count = refl; range = (columns_within 12 0 16 (map pos (replicate 12 0)) (lit≤ tt) refl).range }

client : IsClient quiet_client
client =
    record {
      arrives_first = lit≤ tt;
      arrives_last = lit≤ tt;
      departs_later = lit< tt;
      departs_last = lit≤ tt;
      premium_low = lit≤ tt;
      premium_high = lit≤ tt;
      three = refl;
      values_high = All-cons (λ value. value ≤ 200) 0 (0 ∷ 100 ∷ []) (lit≤ tt) (All-cons (λ value. value ≤ 200) 0 (100 ∷ []) (lit≤ tt) (All-cons (λ value. value ≤ 200) 100 [] (lit≤ tt) (All-nil (λ value. value ≤ 200))));
    }

pub game : IsGame quiet_game
unfolding quiet_game
game = record {
  version_low = lit≤ tt;
  version_high = lit≤ tt;
  words = seats;
  flight_count = refl;
  flights = All-replicate IsFlight 8 quiet_flight flight;
  order = nights;
  nights = plain_are;
  agents = record {
    endow_count = refl;
    endow = All-replicate IsEndowment 8 (replicate 12 0) nothing;
    client_count = refl;
    clients = All-replicate AreClients 8 (replicate 8 quiet_client) (record { count = refl; each = All-replicate IsClient 8 quiet_client client });
  };
}

-- the quiet game of its words and its closing order
pub made : (words : List (List ℕ)) (order : List ℕ) → words ≡ numbered_seats → order ≡ hotel_nights
    → record { version = 1; words = words; flights = replicate 8 quiet_flight; order = order; rooms = replicate 8 16; live = false; endow = replicate 8 (replicate 12 0); clients = replicate 8 (replicate 8 quiet_client) } ≡ quiet_game
unfolding quiet_game
made words order named rising = rw (named, rising) refl
