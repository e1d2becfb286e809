-- The score of an agent: by the game description its best total and its cash, and after TAC, from memory, a penalty for each
-- ticket that it sold but does not have.
use Rattle.std.specs.Prelude.{ℕ, ◌+◌, ◌*◌, List, ℤ, pos, negsuc, ◌+ℤ◌, ◌-ℤ◌, drop, sum_by}

-- by how many units a holding is below 0
abbrev pub lacking : ℤ → ℕ
lacking (pos n) = 0
lacking (negsuc n) = n + 1

-- how many tickets an agent sold but does not have: the units below 0, over goods 16 to 27; holdings of seats and rooms do not count
-- Row: three_tickets_short (worked_rows/proofs/Logs.antt)
abbrev pub short_of : List ℤ → ℕ
short_of holdings = sum_by lacking (drop 16 holdings)

-- An agent's score is its best total, plus its cash, minus 200 dollars for each ticket that it sold but does not have. The cash is
-- what it gained in trades, so costs are taken out once.
-- Row: ticket_short_costs_200 (worked_rows/proofs/Logs.antt)
abbrev pub score_of : ℕ → ℤ → ℕ → ℤ
score_of best cash short = (pos best +ℤ cash) -ℤ pos (200 * short)
