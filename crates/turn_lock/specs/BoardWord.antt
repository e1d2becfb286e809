-- A board as one word: bits 0 to 23 are the count, 24 to 37 the bid, 38 to 51 the ask, and 52 says that it is closed.
use Rattle.std.specs.Prelude.{ℕ, ◌+◌, ◌*◌, ◌/◌, ◌%◌, ◌==◌, ◌<◌, if◌then◌else◌}
use Rattle.tac_base.specs.declared.calls.Board.{Board}

-- a board that fits its word
abbrev pub IsSmall : Board → Type 0
IsSmall b = (b.count < 16777216) × (b.bid < 16384) × (b.ask < 16384)

abbrev pub packed : Board → ℕ
packed b = b.count + b.bid * 16777216 + b.ask * 274877906944 + (if b.closed then 4503599627370496 else 0)

abbrev pub unpacked : ℕ → Board
unpacked n = record { count = n % 16777216; bid = n / 16777216 % 16384; ask = n / 274877906944 % 16384; closed = n / 4503599627370496 % 2 == 1 }
