-- What the parts of a trip cost; for private clauses.
use Rattle.std.specs.Prelude.{ℕ, ◌+◌, ◌*◌, ◌==◌, ◌&&◌, nat_le, nat_lt, List, slice_index, if◌then◌else◌}
use Rattle.tac_base.specs.Goods.{hotel_night, ticket_night}
use Rattle.packages.specs.Packages.{one_if}

-- a night's room in a hotel, if the night is one of the stay
abbrev pub room_price : List ℕ → ℕ → ℕ → ℕ → ℕ → ℕ
room_price prices hotel arrive depart night = slice_index prices (hotel_night hotel night) * one_if (nat_le arrive night && nat_lt night depart)

-- the rooms of a stay
unfoldable pub rooms_price : List ℕ → ℕ → ℕ → ℕ → ℕ
rooms_price prices hotel arrive depart =
    room_price prices hotel arrive depart 1 + room_price prices hotel arrive depart 2
    + room_price prices hotel arrive depart 3 + room_price prices hotel arrive depart 4

-- a ticket of a type, if it has a night
abbrev pub ticket_price : List ℕ → ℕ → ℕ → ℕ
ticket_price prices kind night = if night == 0 then 0 else slice_index prices (ticket_night kind night)
