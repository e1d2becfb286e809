-- A game that is printed is read as that game.
use Rattle.std.proofs.Common.{◌≡◌, ℕ, ◌*◌, ◌≤◌, ◌<◌, true, false, ltb, List, [], ◌∷◌, ◌++◌, Ok, length, refl, ap, ◌∙◌, arith, lit≤, codes, le-ltb, length-append}
use Rattle.std.specs.List.{AllByRecursion}
use Rattle.game_text.specs.{Preferences, IsClient, parts_of, lines_from, lines_of_parts, one_line, IsFlight, flight_text, order_text, IsEndowment, endow_text, client_text, AreClients, AreAgents, client_lines, agents_lines, night_lines, GameFile, nights_of, agents_of, IsGame, game_lines, canonical_text, game_in, game_of}
use Rattle.text_forms.proofs.PrintedLines.{IsLine, text_ahead, text_short, lines_append, parts_lines, count_parts}
use Rattle.game_text.specs.declared.agents.Agents.{Agents}
use Rattle.game_text.proofs.FlightLaws.{flight_line}
use Rattle.game_text.proofs.HotelNightLaws.{nights_are_lines, few_nights}
use Rattle.game_text.proofs.OrderLaws.{order_line}
use Rattle.game_text.proofs.EndowmentLaws.{endow_line}
use Rattle.game_text.proofs.ClientLaws.{client_line}
use Rattle.game_text.proofs.HeaderLaws.{header_line, end_line, seats_line}
use Rattle.game_text.proofs.GameLaws.{game_in_again}

-- ---- each line of a game is a line

clients_are_lines : (agent : ℕ) (clients : List Preferences) → agent < 8 → AreClients clients → AllByRecursion (IsLine 678) (client_lines agent clients)
clients_are_lines agent clients lt are = parts_lines (one_line (client_text agent)) IsClient 678 8 (λ i wants less is. (client_line 678 agent i wants (lit≤ tt) (omega (arith, lt)) (omega (arith, less)) is, tt)) clients 0 (omega (arith, are.count)) are.each

agents_are_lines : (agents : Agents) → AreAgents agents → AllByRecursion (IsLine 678) (agents_lines agents)
agents_are_lines agents are =
    lines_append 678 (lines_of_parts (one_line endow_text) 0 agents.endow) (lines_of_parts client_lines 0 agents.clients) (parts_lines (one_line endow_text) IsEndowment 678 8 (λ i endow less is. (endow_line 678 i endow (lit≤ tt) (omega (arith, less)) is, tt)) agents.endow 0 (omega (arith, are.endow_count)) are.endow)
    (parts_lines client_lines AreClients 678 8 clients_are_lines agents.clients 0 (omega (arith, are.client_count)) are.clients)

pub game_is_lines : (game : GameFile) → IsGame game → AllByRecursion (IsLine 678) (game_lines game)
game_is_lines game is = (
  header_line game.version is.version_low is.version_high,
  (
    seats_line game.words is.words,
    lines_append 678 (lines_of_parts (one_line flight_text) 0 game.flights) _ (parts_lines (one_line flight_text) IsFlight 678 8 (λ i flight less ok. (flight_line i flight (omega (arith, less)) ok, tt)) game.flights 0 (omega (arith, is.flight_count)) is.flights) (
      order_line game.order is.order,
      lines_append 678 (night_lines game.version (nights_of game)) _ (nights_are_lines game.version is.version_low is.version_high (nights_of game) is.nights)
          (lines_append 678 (agents_lines (agents_of game)) (codes "end" ∷ []) (agents_are_lines (agents_of game) is.agents) (end_line, tt)),
    ),
  ),
)

-- ---- there are at most 86

agents_count : (agents : Agents) → AreAgents agents → length (agents_lines agents) ≡ 72
agents_count agents are =
    let e = count_parts (one_line endow_text) IsEndowment 1 (λ i x h. refl) agents.endow 0 are.endow in
    let each : (i : ℕ) (x : List Preferences) → AreClients x → length (client_lines i x) ≡ 8 = λ i x h. count_parts (one_line (client_text i)) IsClient 1 (λ j y k. refl) x 0 h.each ∙ ap (λ (n : ℕ). 1 * n) h.count in
    let c = count_parts client_lines AreClients 8 each agents.clients 0 are.clients in
    omega (arith, e, c, are.endow_count, are.client_count, length-append (lines_of_parts (one_line endow_text) 0 agents.endow) (lines_of_parts client_lines 0 agents.clients))

line_count : (game : GameFile) → IsGame game → length (game_lines game) ≤ 86
line_count game is =
    let f = count_parts (one_line flight_text) IsFlight 1 (λ i x h. refl) game.flights 0 is.flights in
    let a = agents_count (agents_of game) is.agents in
    let nights = night_lines game.version (nights_of game) in
    let few = few_nights game.version is.version_low is.version_high (nights_of game) in
    let last = agents_lines (agents_of game) ++ codes "end" ∷ [] in
    omega (arith, f, a, few, is.flight_count, length-append (lines_of_parts (one_line flight_text) 0 game.flights) (order_text game.order ∷ (nights ++ last)), length-append nights last, length-append (agents_lines (agents_of game)) (codes "end" ∷ []))

-- ---- reading it

pub game_again : (game : GameFile) → IsGame game → game_of (canonical_text game) ≡ Ok game
unfolding game_of
game_again game is =
    let lines = game_is_lines game is in
    let size : length (canonical_text game) ≤ 1048576 = let short = text_short 678 (game_lines game) lines in let count = line_count game is in omega (arith, short, count) in
    let long : ltb 1048576 (length (canonical_text game)) ≡ false = le-ltb _ _ size in
    let cut = text_ahead 678 (game_lines game) lines in
    let read : game_in (lines_from true 1 (parts_of 10 (canonical_text game))) ≡ Ok game = ap game_in cut.2 ∙ game_in_again game cut.1 cut.0 is in
    rw (long, read) refl
