-- The reader of game files goes from line to line.
use Rattle.std.proofs.Common.{◌≡◌, ℕ, ◌<◌, Bool, true, false, cond, List, Ok, refl, arith, lit≤, codes, replicate, ◌==◌}
use Rattle.std.proofs.lemmas.List.Elements.{All-head}
use Rattle.tac_base.specs.Clients.{IsClient}
use Rattle.reading_laws.specs.Prelude.{numeral, BadLine, row, ◌>>=◌, read_by, repeat, header_of, header_text, read_end_line, game_in, flight_part, quiet_client, quiet_flight, quiet_game}
use Rattle.text_forms.proofs.PrintedLines.{lacks_from}
use Rattle.game_text.specs.SeatWords.{numbered_seats, seats_of, seats_text}
use Rattle.game_text.specs.Flights.{flight_of, flight_text}
use Rattle.game_text.specs.ClosingOrders.{IsOrder, order_of, order_text}
use Rattle.game_text.specs.Endowments.{IsEndowment, endow_of, endow_text}
use Rattle.game_text.specs.ClientLines.{client_of, client_text}
use Rattle.game_text.specs.AgentLines.{AreClients, agents_in, agent_part, endow_part, client_part}
use Rattle.game_text.specs.HotelNights.{nights_in, stated_nights_in, plain_nights, read_rooms, quotes_of}
use Rattle.game_text.specs.Schedule.{hotel_nights}
use Rattle.game_text.proofs.QuietRanges as quiet
use Rattle.game_text.proofs.HeaderLaws.{header_again, header_line, end_again, end_line, seats_again, seats_line}
use Rattle.game_text.proofs.FlightLaws.{flight_again, flight_line}
use Rattle.game_text.proofs.OrderLaws.{order_again, order_line}
use Rattle.game_text.proofs.EndowmentLaws.{endow_again, endow_line}
use Rattle.game_text.proofs.ClientLaws.{client_again, client_line}
use Rattle.reading_laws.proofs.Steady.{Reader, Step, any_line, Never, Steady, steady_then, steady_done, Closes, closes_then}
use Rattle.reading_laws.proofs.LineSteps.{IsBadAt, plain, line_goes_on, parts_go_on, text_ends}

abbrev pub Goes : {A : Type 0} → Step A BadLine → Type 0
Goes step = Steady IsBadAt any_line Never step

abbrev pub then_goes : {A B : Type 0} (step : Step A BadLine) (next : A → Step B BadLine) → Goes step → ((a : A) → Goes (next a)) → Goes (λ l. step l >>= λ x. next x.0 x.1)
then_goes step next s each = steady_then IsBadAt any_line Never step next s each

abbrev pub done_goes : {A : Type 0} (x : A) → Goes (λ left. Ok (x, left))
done_goes x = steady_done IsBadAt any_line Never x

pub then_closes : {A X : Type 0} (step : Step A BadLine) (next : A → Reader X BadLine) → Goes step → ((a : A) → Closes IsBadAt any_line Never (next a)) → Closes IsBadAt any_line Never (λ l. step l >>= λ x. next x.0 x.1)
then_closes step next s each = closes_then IsBadAt any_line Never step next s each

-- ---- lines of the quiet game

quiet_order : IsOrder hotel_nights
unfolding quiet_game
quiet_order = quiet.game.order

quiet_endowment : IsEndowment (replicate 12 0)
unfolding quiet_game
quiet_endowment = All-head IsEndowment (replicate 12 0) (replicate 7 (replicate 12 0)) quiet.game.agents.endow

is_client : IsClient quiet_client
unfolding quiet_game
is_client = let clients = All-head AreClients (replicate 8 quiet_client) (replicate 7 (replicate 8 quiet_client)) quiet.game.agents.clients in All-head IsClient quiet_client (replicate 7 quiet_client) clients.each

-- ---- the parts

flights_go : Goes (repeat 8 0 flight_part)
flights_go = parts_go_on any_line Never flight_part 8 (λ i less. line_goes_on any_line Never (flight_of i) (flight_text i quiet_flight) quiet_flight (plain 678 _ (flight_line i quiet_flight (omega (arith, less)) quiet.flight)) refl (flight_again i quiet_flight (omega (arith, less)) quiet.flight)) 8 0 (lit≤ tt)

endowments_go : Goes (repeat 8 0 endow_part)
endowments_go =
    parts_go_on any_line Never endow_part 8 (λ i less. line_goes_on any_line Never (endow_of i) (endow_text i (replicate 12 0)) (replicate 12 0) (plain 678 _ (endow_line 678 i (replicate 12 0) (lit≤ tt) (omega (arith, less)) quiet_endowment)) refl (endow_again i (replicate 12 0) (omega (arith, less)) quiet_endowment)) 8 0 (lit≤ tt)

agent_goes : (agent : ℕ) → agent < 8 → Goes (agent_part agent)
agent_goes agent few =
    parts_go_on any_line Never (client_part agent) 8
    (λ i less. line_goes_on any_line Never (client_of agent i) (client_text agent i quiet_client) quiet_client (plain 678 _ (client_line 678 agent i quiet_client (lit≤ tt) (omega (arith, few)) (omega (arith, less)) is_client)) refl (client_again agent i quiet_client (omega (arith, few)) (omega (arith, less)) is_client)) 8 0 (lit≤ tt)

agents_go : Goes agents_in
unfolding agents_in
agents_go =
    then_goes (repeat 8 0 endow_part) (λ endow left. repeat 8 0 agent_part left >>= λ clients. Ok (record { endow = endow; clients = clients.0 }, clients.1)) endowments_go
    (λ endow. then_goes (repeat 8 0 agent_part) (λ clients left. Ok (record { endow = endow; clients = clients }, left)) (parts_go_on any_line Never agent_part 8 agent_goes 8 0 (lit≤ tt)) (λ clients. done_goes (record { endow = endow; clients = clients })))

abbrev rooms_line : List ℕ
rooms_line = codes "rooms 16 16 16 16 16 16 16 16"

rooms_read : read_rooms rooms_line ≡ Ok (replicate 8 16)
unfolding read_rooms row numeral
rooms_read = refl

quotes_read : quotes_of (codes "quotes minute") ≡ Ok false
unfolding quotes_of
quotes_read = refl

stated_nights_go : Goes stated_nights_in
stated_nights_go =
    then_goes (λ left. read_by read_rooms left) (λ rooms left. read_by quotes_of left >>= λ quotes. Ok (record { rooms = rooms; live = quotes.0 }, quotes.1)) (line_goes_on any_line Never read_rooms rooms_line (replicate 8 16) (record { lacks = lacks_from 10 rooms_line refl; kept = refl }) refl rooms_read)
    (λ rooms. then_goes (λ left. read_by quotes_of left) (λ quotes left. Ok (record { rooms = rooms; live = quotes }, left)) (line_goes_on any_line Never quotes_of (codes "quotes minute") false (record { lacks = lacks_from 10 (codes "quotes minute") refl; kept = refl }) refl quotes_read)
    (λ quotes. done_goes (record { rooms = rooms; live = quotes })))

either_goes : {A : Type 0} (b : Bool) (one other : Step A BadLine) → Goes one → Goes other → Goes (λ left. cond b (one left) (other left))
either_goes true one other o p = o
either_goes false one other o p = p

nights_go : (version : ℕ) → Goes (nights_in version)
unfolding nights_in
nights_go version = either_goes (version == 2) stated_nights_in (λ left. Ok (plain_nights, left)) stated_nights_go (done_goes plain_nights)

pub end_goes : Goes (λ left. read_by read_end_line left)
end_goes = line_goes_on any_line Never read_end_line (codes "end") tt (plain 678 _ end_line) refl end_again

-- ---- a whole text

pub game_closes : Closes IsBadAt any_line Never game_in
unfolding game_in
game_closes =
    then_closes (λ left. read_by header_of left) _ (line_goes_on any_line Never header_of (header_text 1) 1 (plain 678 _ (header_line 1 (lit≤ tt) (lit≤ tt))) refl (header_again 1 (lit≤ tt) (lit≤ tt))) (λ version.
    then_closes (λ left. read_by seats_of left) _ (line_goes_on any_line Never seats_of (seats_text numbered_seats) numbered_seats (plain 678 _ (seats_line numbered_seats quiet.seats)) refl (seats_again numbered_seats quiet.seats)) (λ words.
    then_closes (repeat 8 0 flight_part) _ flights_go (λ flights.
    then_closes (λ left. read_by order_of left) _ (line_goes_on any_line Never order_of (order_text hotel_nights) hotel_nights (plain 678 _ (order_line hotel_nights quiet_order)) refl (order_again hotel_nights quiet_order)) (λ order.
    then_closes (nights_in version) _ (nights_go version) (λ nights.
    then_closes agents_in _ agents_go (λ agents.
    then_closes (λ left. read_by read_end_line left) _ end_goes (λ end.
    text_ends any_line Never (record { version = version; words = words; flights = flights; order = order; rooms = nights.rooms; live = nights.live; endow = agents.endow; clients = agents.clients }))))))))
