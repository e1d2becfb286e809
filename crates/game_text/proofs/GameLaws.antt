-- A file that is read has the canonical lines, except for comments and empty lines, and a game that is printed is read again.
use Rattle.std.proofs.Common.{◌≡◌, ℕ, ◌≤◌, ◌<◌, true, false, ltb, List, [], ◌∷◌, ◌++◌, Result, Ok, Err, length, drop, refl, sym, ap, ◌∙◌, subst, arith, codes, IfOk, All, le-ltb}
use Rattle.game_text.specs.{BadLine, parts_of, Remaining, lines_from, nothing_left, AreLinesLeft, ◌>>=◌, read_by, repeat, lines_of_parts, one_line, AreSeats, seats_of, seats_text, FlightTerms, IsFlight, flight_of, flight_text, IsOrder, order_of, order_text, agents_in, agents_lines, nights_in, night_lines, header_of, header_text, read_end_line, GameFile, nights_of, agents_of, IsGame, game_lines, IsTextOf, flight_part, game_in, game_of}
use Rattle.text_forms.proofs.Reading.{took_then, took_line, bind_ok, ok_is, read_took, Takes, line_takes, repeat_took, took_all}
use Rattle.text_forms.proofs.PrintedLines.{ahead, at_end, left_ahead}
use Rattle.text_forms.proofs.ReadAgain.{Again, line_part_again, parts_again}
use Rattle.game_text.specs.declared.agents.Agents.{Agents}
use Rattle.game_text.specs.declared.fault.GameFault.{GameFault}
use Rattle.game_text.specs.declared.fault.GameFault.TheVariants.{TooLong}
use Rattle.game_text.specs.declared.hotel_nights.HotelNights.{HotelNights}
use Rattle.game_text.proofs.Limits.{within_limit, by_length}
use Rattle.game_text.proofs.FlightLaws.{flight_is, flight_again}
use Rattle.game_text.proofs.OrderLaws.{order_is, order_again}
use Rattle.game_text.proofs.HeaderLaws.{header_is, header_again, end_is, end_again, seats_is, seats_again}
use Rattle.game_text.proofs.HotelNightLaws.{nights_took, nights_again}
use Rattle.game_text.proofs.AgentLaws.{agents_took, agents_again}

-- ---- each step keeps the ranges

pub seats_kept : (left : Remaining) (x : List (List ℕ) × Remaining) → read_by seats_of left ≡ Ok x → AreSeats x.0
seats_kept left x e = let r = read_took seats_of left x e in (seats_is r.0 x.0 r.2).1

flight_takes : Takes flight_part (one_line flight_text) IsFlight
flight_takes = line_takes flight_of flight_text IsFlight flight_is

-- eight flights in their ranges
pub record AreFlights (flights : List FlightTerms) : Type 0 where
  pub count : length flights ≡ 8
  pub each : All IsFlight flights

pub flights_kept : (left : Remaining) (x : List FlightTerms × Remaining) → repeat 8 0 flight_part left ≡ Ok x → AreFlights x.0
flights_kept left x e = let r = repeat_took flight_part (one_line flight_text) IsFlight flight_takes 8 0 left x e in record { count = r.count_is; each = r.each }

pub order_kept : (left : Remaining) (x : List ℕ × Remaining) → read_by order_of left ≡ Ok x → IsOrder x.0
order_kept left x e = let r = read_took order_of left x e in (order_is r.0 x.0 r.2).1

pub header_kept : (left : Remaining) (x : ℕ × Remaining) → read_by header_of left ≡ Ok x → (1 ≤ x.0) × (x.0 ≤ 2)
header_kept left x e = let r = read_took header_of left x e in let is = header_is r.0 x.0 r.2 in (is.low, is.high)

-- ---- the steps of reading a file

abbrev made : ℕ → List (List ℕ) → List FlightTerms → List ℕ → HotelNights → Agents → GameFile
made version words flights order nights agents = record { version = version; words = words; flights = flights; order = order; rooms = nights.rooms; live = nights.live; endow = agents.endow; clients = agents.clients }

abbrev then_done : GameFile → Remaining → Result GameFile BadLine
then_done game left = nothing_left left >>= λ done. Ok game

abbrev then_end : GameFile → Remaining → Result GameFile BadLine
then_end game left = read_by read_end_line left >>= λ end. then_done game end.1

abbrev then_agents : ℕ → List (List ℕ) → List FlightTerms → List ℕ → HotelNights → Remaining → Result GameFile BadLine
then_agents version words flights order nights left = agents_in left >>= λ agents. then_end (made version words flights order nights agents.0) agents.1

abbrev then_nights : ℕ → List (List ℕ) → List FlightTerms → List ℕ → Remaining → Result GameFile BadLine
then_nights version words flights order left = nights_in version left >>= λ nights. then_agents version words flights order nights.0 nights.1

abbrev then_order : ℕ → List (List ℕ) → List FlightTerms → Remaining → Result GameFile BadLine
then_order version words flights left = read_by order_of left >>= λ order. then_nights version words flights order.0 order.1

abbrev then_flights : ℕ → List (List ℕ) → Remaining → Result GameFile BadLine
then_flights version words left = repeat 8 0 flight_part left >>= λ flights. then_order version words flights.0 flights.1

abbrev then_words : ℕ → Remaining → Result GameFile BadLine
then_words version left = read_by seats_of left >>= λ words. then_flights version words.0 words.1

-- the lines after the hotel nights, after the closing order, after the flights and after the seat words
abbrev after_nights : Agents → List (List ℕ)
after_nights agents = agents_lines agents ++ codes "end" ∷ []

abbrev after_order : ℕ → HotelNights → Agents → List (List ℕ)
after_order version nights agents = night_lines version nights ++ after_nights agents

abbrev after_flights : List ℕ → ℕ → HotelNights → Agents → List (List ℕ)
after_flights order version nights agents = order_text order ∷ after_order version nights agents

abbrev after_words : List FlightTerms → List ℕ → ℕ → HotelNights → Agents → List (List ℕ)
after_words flights order version nights agents = lines_of_parts (one_line flight_text) 0 flights ++ after_flights order version nights agents

pub game_in_is : (left : Remaining) (game : GameFile) → game_in left ≡ Ok game → AreLinesLeft (game_lines game) left × IsGame game
unfolding game_in
game_in_is left game e =
    let b1 = bind_ok (read_by header_of left) (λ header. then_words header.0 header.1) game e in
    let version = b1.0.0 in let l1 = b1.0.1 in
    let b2 = bind_ok (read_by seats_of l1) (λ words. then_flights version words.0 words.1) game b1.2 in
    let words = b2.0.0 in let l2 = b2.0.1 in
    let b3 = bind_ok (repeat 8 0 flight_part l2) (λ flights. then_order version words flights.0 flights.1) game b2.2 in
    let flights = b3.0.0 in let l3 = b3.0.1 in
    let b4 = bind_ok (read_by order_of l3) (λ order. then_nights version words flights order.0 order.1) game b3.2 in
    let order = b4.0.0 in let l4 = b4.0.1 in
    let b5 = bind_ok (nights_in version l4) (λ nights. then_agents version words flights order nights.0 nights.1) game b4.2 in
    let nights = b5.0.0 in let l5 = b5.0.1 in
    let b6 = bind_ok (agents_in l5) (λ agents. then_end (made version words flights order nights agents.0) agents.1) game b5.2 in
    let agents = b6.0.0 in let l6 = b6.0.1 in
    let g = made version words flights order nights agents in
    let b7 = bind_ok (read_by read_end_line l6) (λ end. then_done g end.1) game b6.2 in
    let l7 = b7.0.1 in
    let b8 = bind_ok (nothing_left l7) (λ done. Ok g) game b7.2 in
    let r1 = read_took header_of left b1.0 b1.1 in
    let s1 = header_is r1.0 version r1.2 in
    let t1 = took_line left l1 r1.0 (header_text version) s1.text r1.1 in
    let r2 = read_took seats_of l1 b2.0 b2.1 in
    let s2 = seats_is r2.0 words r2.2 in
    let t2 = took_line l1 l2 r2.0 (seats_text words) s2.0 r2.1 in
    let p3 = repeat_took flight_part (one_line flight_text) IsFlight flight_takes 8 0 l2 b3.0 b3.1 in
    let r4 = read_took order_of l3 b4.0 b4.1 in
    let s4 = order_is r4.0 order r4.2 in
    let t4 = took_line l3 l4 r4.0 (order_text order) s4.0 r4.1 in
    let p5 = nights_took version s1.low s1.high l4 b5.0 b5.1 in
    let p6 = agents_took l5 b6.0 b6.1 in
    let r7 = read_took read_end_line l6 b7.0 b7.1 in
    let t7 = took_line l6 l7 r7.0 (codes "end") (end_is r7.0 b7.0.0 r7.2) r7.1 in
    let c6 = took_then l5 (agents_lines agents) l6 (codes "end" ∷ []) l7 p6.0 t7 in
    let c5 = took_then l4 (night_lines version nights) l5 (after_nights agents) l7 p5.0 c6 in
    let c4 = took_then l3 (order_text order ∷ []) l4 (after_order version nights agents) l7 t4 c5 in
    let c3 = took_then l2 (lines_of_parts (one_line flight_text) 0 flights) l3 (after_flights order version nights agents) l7 p3.took c4 in
    let c2 = took_then l1 (seats_text words ∷ []) l2 (after_words flights order version nights agents) l7 t2 c3 in
    let c1 = took_then left (header_text version ∷ []) l1 (seats_text words ∷ after_words flights order version nights agents) l7 t1 c2 in
    subst (λ (x : GameFile). AreLinesLeft (game_lines x) left × IsGame x) {x = g} (ok_is {E = BadLine} g game b8.2)
    (took_all left l7 (game_lines g) b8.0 c1 b8.1, record { version_low = s1.low; version_high = s1.high; words = s2.1; flight_count = p3.count_is; flights = p3.each; order = s4.1; nights = p5.1; agents = p6.1 })

game_is : (text : List ℕ) (game : GameFile) → game_of text ≡ Ok game → IsTextOf game text × IsGame game
unfolding game_of
game_is text game e =
    let left = lines_from true 1 (parts_of 10 text) in
    game_in_is left game (within_limit (ltb 1048576 (length text)) (game_in left) game e)

pub if_read : (text : List ℕ) (r : Result GameFile GameFault) → r ≡ game_of text → IfOk r (λ game. IsTextOf game text × IsGame game)
if_read text (Ok game) e = game_is text game (sym e)
if_read text (Err fault) e = tt

-- ---- a text of a game is read as that game

flight_part_again : Again flight_part (one_line flight_text) IsFlight 8
flight_part_again = line_part_again flight_of flight_text IsFlight 8 (λ good flight lt is. flight_again good flight (omega (arith, lt)) is)

pub game_in_again : (game : GameFile) (numbers : List ℕ) (m : ℕ) → IsGame game → game_in (ahead numbers (game_lines game) (at_end m)) ≡ Ok game
unfolding game_in at_end
game_in_again game numbers m is =
    let after = at_end m in
    let nights = nights_of game in
    let agents = agents_of game in
    let f = parts_again flight_part (one_line flight_text) IsFlight 8 flight_part_again game.flights is.flight_count is.flights (drop 1 (drop 1 numbers)) (after_flights game.order game.version nights agents) after in
    let n = nights_again game.version is.version_low is.version_high nights is.nights (drop 1 f.0) (after_nights agents) after in
    let a = agents_again agents is.agents n.0 (codes "end" ∷ []) after in
    rw (header_again game.version is.version_low is.version_high, seats_again game.words is.words, f.1, order_again game.order is.order, n.1, a.1, end_again) refl

pub only_game : (text : List ℕ) (game : GameFile) → length text ≤ 1048576 → IsTextOf game text → IsGame game → game_of text ≡ Ok game
unfolding game_of
only_game text game size are is =
    let left = lines_from true 1 (parts_of 10 text) in
    let long : ltb 1048576 (length text) ≡ false = le-ltb _ _ size in
    let ahead-is = left_ahead (game_lines game) left are in
    let read : game_in left ≡ Ok game = ap game_in ahead-is.2 ∙ game_in_again game ahead-is.1 ahead-is.0 is in
    rw (long, read) refl

-- ---- a text that is too long

pub too_long : (text : List ℕ) (r : Result GameFile GameFault) → r ≡ game_of text → (r ≡ Err TooLong → 1048576 < length text) × (1048576 < length text → r ≡ Err TooLong)
unfolding game_of
too_long text r is =
    let both = by_length 1048576 (length text) (game_in (lines_from true 1 (parts_of 10 text))) (ltb 1048576 (length text)) refl in
    (λ h. both.0 (sym is ∙ h), λ lt. is ∙ both.1 lt)
