-- How many units of a good an agent can use: our own rule for an account that is short of it.
use Rattle.std.specs.Prelude.{ℕ, ℤ, pos, negsuc, List, slice_index_or}

-- the greater of a number and 0: an agent that is short of a good can use none
abbrev pub at_least_none : ℤ → ℕ
at_least_none (pos n) = n
at_least_none (negsuc n) = 0

-- how many units of a good an agent with these holdings can use
-- Row: second_traveller_has_no_seat (worked_rows/proofs/Trips.antt)
abbrev pub stock_of : List ℤ → ℕ → ℕ
stock_of holdings good = at_least_none (slice_index_or holdings good (pos 0))
