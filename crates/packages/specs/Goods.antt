-- The 28 goods as seats, rooms and tickets. The goods are those of the game description; their numbers follow TAC, from memory.
use Rattle.std.specs.Prelude.{ℕ, ◌+◌, ◌-◌, ◌/◌, ◌%◌, nat_lt, if◌then◌else◌}
use Rattle.tac_base.specs.Goods.{inbound_flight, outbound_flight, hotel_night, ticket_night}

-- a good, as what a traveller uses: a seat, a room or a ticket
pub data Thing : Type 0 where
  -- an inbound seat on a day, 1..4
  inbound : ℕ → Thing
  -- an outbound seat on a day, 2..5
  outbound : ℕ → Thing
  -- a room of a hotel, 0..1, on a night, 1..4
  room : ℕ → ℕ → Thing
  -- a ticket of a type, 0..2, for a night, 1..4
  ticket : ℕ → ℕ → Thing

-- the number of a good
abbrev pub good_number : Thing → ℕ
good_number (inbound day) = inbound_flight day
good_number (outbound day) = outbound_flight day
good_number (room hotel night) = hotel_night hotel night
good_number (ticket kind night) = ticket_night kind night

-- Goods 0 to 3 are the inbound seats of days 1 to 4; 4 to 7 the outbound seats of days 2 to 5; 8 to 11 the rooms of nights 1 to 4 in
-- hotel 0, Shoreline Shanties; 12 to 15 those in hotel 1, Tampa Towers, the better one; 16 to 19 the tickets of nights 1 to 4 for type
-- 0, alligator wrestling; 20 to 23 those for type 1, the amusement park; 24 to 27 those for type 2, the museum.
-- Row: goods_are_seats_rooms_and_tickets (worked_rows/proofs/Packages.antt)
abbrev pub thing_of : ℕ → Thing
thing_of good =
    if nat_lt good 4 then inbound (good + 1)
    else if nat_lt good 8 then outbound (good - 2)
    else if nat_lt good 16 then room ((good - 8) / 4) ((good - 8) % 4 + 1)
    else ticket ((good - 16) / 4) ((good - 16) % 4 + 1)
