-- The numbers of goods, after TAC and from memory, and of parties and callers, which are our own.
use Rattle.std.specs.Prelude.{ℕ, ◌+◌, ◌-◌, ◌*◌, List, [], ◌∷◌}

-- the inbound flight of a day, 1 to 4
abbrev pub inbound_flight : ℕ → ℕ
inbound_flight day = day - 1

-- the outbound flight of a day, 2 to 5
abbrev pub outbound_flight : ℕ → ℕ
outbound_flight day = day + 2

-- a night, 1 to 4, of a hotel: 0 is Shoreline Shanties, 1 is Tampa Towers
abbrev pub hotel_night : ℕ → ℕ → ℕ
hotel_night hotel night = 8 + 4 * hotel + (night - 1)

-- a night, 1 to 4, of a ticket type: 0 is alligator wrestling, 1 the amusement park, 2 the museum
abbrev pub ticket_night : ℕ → ℕ → ℕ
ticket_night ticket night = 16 + 4 * ticket + (night - 1)

-- the agents, 0 to 7, in order
abbrev pub agents : List ℕ
agents = 0 ∷ 1 ∷ 2 ∷ 3 ∷ 4 ∷ 5 ∷ 6 ∷ 7 ∷ []

-- the number of the clock among the callers of an auction; the agents are 0 to 7
abbrev pub clock : ℕ
clock = 8

-- the number of the house among the parties of a trade. It is the clock's number, but no party is the clock and no caller is the
-- house.
abbrev pub house : ℕ
house = 8

-- the parties of trades in order: the agents, 0 to 7, and the house
abbrev pub parties : List ℕ
parties = 0 ∷ 1 ∷ 2 ∷ 3 ∷ 4 ∷ 5 ∷ 6 ∷ 7 ∷ 8 ∷ []
