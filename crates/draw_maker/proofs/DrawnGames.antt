-- What is made of words that are drawn in turn.
use Rattle.std.proofs.Common.{◌≡◌, ℕ, ◌+◌, ◌%◌, ◌<◌, List, map, take, drop, refl, sym, ap, ◌∙◌, lit<, arith, ℤ, pos, ◌-ℤ◌, to_z, of_z, w8, false, replicate, slice_index, mod-lt}
use Rattle.std.proofs.lemmas.Int.{ints, to_z-of_z, to_z_pos}
use Rattle.rand_pcg.specs.Lcg.{Lcg}
use Rattle.draw_maker.specs.Prelude.{FlightTerms, GameFile, IsGame, Preferences, numbered_seats}
use Rattle.draw_maker.specs.Words.{generator, next_words, after, parts}
use Rattle.draw_maker.specs.Flights.{made_flight}
use Rattle.draw_maker.specs.ClosingOrders.{made_order}
use Rattle.draw_maker.specs.Endowments.{made_endowment}
use Rattle.draw_maker.specs.Clients.{drawn_trip, made_client, made_clients}
use Rattle.draw_maker.specs.Games.{game_of_words, made_game}
use Rattle.draw_maker.proofs.DrawnWords.{after-add, take-words, drop-words, length-words, two_before, parts_within}
use Rattle.draw_maker.proofs.WordRanges.{words_range}
use Rattle.draw_maker.proofs.GameRanges.{game_range}

-- ---- two words, and then the others

kept_bound : (n : ℕ) → n < 41 → to_z w8 (of_z w8 (to_z w8 n -ℤ pos 10)) ≡ pos n -ℤ pos 10
kept_bound n below =
    ap (λ (z : ℤ). to_z w8 (of_z w8 (z -ℤ pos 10))) (to_z_pos w8 n (omega (arith, below)))
    ∙ to_z-of_z w8 (pos n -ℤ pos 10) (search (arith, ints))

pub flight_drawn : (words later : Lcg) (two draws : List ℕ) → two ≡ next_words 2 words → later ≡ after 2 words → draws ≡ next_words 53 later
    → record { first = 250 + slice_index two 0 % 151; bound = to_z w8 (of_z w8 (to_z w8 (slice_index two 1 % 41) -ℤ pos 10)); draws = draws } ≡ made_flight (next_words 55 words)
flight_drawn words later two draws two-is later-is draws-is =
    let bound = kept_bound (slice_index two 1 % 41) (mod-lt (slice_index two 1) (lit< tt)) in
    rw (bound, draws-is, later-is, two-is) (sym (ap made_flight (two_before 53 words)))

pub client_drawn : (words later : Lcg) (two : List ℕ) (trip : ℕ × ℕ) (values : List ℕ) → two ≡ next_words 2 words → later ≡ after 2 words → trip ≡ drawn_trip (slice_index two 0 % 10)
    → values ≡ map (λ word. word % 201) (next_words 3 later)
    → record { arrive = trip.0; depart = trip.1; premium = 50 + slice_index two 1 % 101; values = values } ≡ made_client (next_words 5 words)
client_drawn words later two trip values two-is later-is trip-is values-is = rw (values-is, trip-is, later-is, two-is) (sym (ap made_client (two_before 3 words)))

pub after_two : (n : ℕ) (words later last : Lcg) → later ≡ after 2 words → last ≡ after n later → last ≡ after (2 + n) words
after_two n words later last later-is last-is = last-is ∙ ap (λ (w : Lcg). after n w) later-is ∙ sym (after-add 2 n words)

-- ---- a game

-- the parts of a game, drawn in turn
abbrev pub drawn : Lcg → GameFile
drawn words =
    let nights = after 440 words in
    let tickets = after 7 nights in
    let wishes = after 96 tickets in
    record {
      version = 1;
      words = numbered_seats;
      flights = map made_flight (parts 8 55 (next_words 440 words));
      order = made_order (next_words 7 nights);
      rooms = replicate 8 16;
      live = false;
      endow = map made_endowment (parts 8 12 (next_words 96 tickets));
      clients = map made_clients (parts 8 40 (next_words 320 wishes));
    }

pub game_drawn : (words : Lcg) → drawn words ≡ game_of_words (next_words 863 words)
unfolding game_of_words
game_drawn words =
    let flights = parts_within 8 55 863 words (omega arith) in
    let order : take 7 (drop 440 (next_words 863 words)) ≡ next_words 7 (after 440 words) = ap (λ (ws : List ℕ). take 7 ws) (drop-words 440 423 words) ∙ take-words 7 416 (after 440 words) in
    let endow : parts 8 12 (drop 447 (next_words 863 words)) ≡ parts 8 12 (next_words 96 (after 7 (after 440 words))) =
    ap (λ (ws : List ℕ). parts 8 12 ws) (drop-words 447 416 words ∙ ap (λ (w : Lcg). next_words 416 w) (after-add 440 7 words)) ∙ parts_within 8 12 416 (after 7 (after 440 words)) (omega arith)
    in
    let clients : drop 543 (next_words 863 words) ≡ next_words 320 (after 96 (after 7 (after 440 words))) =
    drop-words 543 320 words ∙ ap (λ (w : Lcg). next_words 320 w) (after-add 447 96 words ∙ ap (λ (w : Lcg). after 96 w) (after-add 440 7 words))
    in
    rw (flights, order, endow, clients) refl

-- what is drawn in turn, each from where the one before left the generator
pub game_in_turn : (words start nights tickets wishes : Lcg) (seats : List (List ℕ)) (flights : List FlightTerms) (order : List ℕ) (endow : List (List ℕ)) (clients : List (List Preferences))
    → start ≡ words → nights ≡ after 440 start → tickets ≡ after 7 nights → wishes ≡ after 96 tickets
    → seats ≡ numbered_seats → flights ≡ map made_flight (parts 8 55 (next_words 440 start)) → order ≡ made_order (next_words 7 nights) → endow ≡ map made_endowment (parts 8 12 (next_words 96 tickets))
    → clients ≡ map made_clients (parts 8 40 (next_words 320 wishes))
    → record { version = 1; words = seats; flights = flights; order = order; rooms = replicate 8 16; live = false; endow = endow; clients = clients } ≡ game_of_words (next_words 863 words)
game_in_turn words start nights tickets wishes seats flights order endow clients start-is nights-is tickets-is wishes-is seats-are flights-are order-is endow-is clients-are =
    rw (seats-are, flights-are, order-is, endow-is, clients-are, wishes-is, tickets-is, nights-is, start-is) (game_drawn words)

pub made_game_range : (seed : ℕ) → IsGame (made_game seed)
made_game_range seed = let words = generator seed 54 in game_range (next_words 863 words) (length-words 863 words) (words_range 863 words)
