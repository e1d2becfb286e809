-- Flights: the price. By the game description it drifts at random and stays in 150..800; how a given draw changes it is our own rule.
use Rattle.std.specs.Prelude.{ℕ, ◌+◌, ◌%◌, min, max, if◌then◌else◌, List, [], ◌∷◌, ℤ, pos, negsuc, neg_ℤ, ◌+ℤ◌, ◌-ℤ◌, ◌*ℤ◌, int_lt, unsigned_abs}
use Rattle.std.specs.Int.{int_div_euclid}
use Rattle.tac_base.specs.declared.limits.TheConstants.{TICKS}
use Rattle.tac_base.specs.declared.calls.Call.{Call}
use Rattle.tac_base.specs.declared.calls.Call.TheVariants.{Update}
use Rattle.auction_rules.specs.History.{Entry, is_admission}

-- For the flight's bound x and the tick t, x(t) = 10 + floor(t * (x - 10) / 54), where floor rounds down, also for negative numbers:
-- Euclidean division by 54 does so.
-- Row: draws_raise_and_lower_the_price (worked_rows/proofs/Auctions.antt)
abbrev pub drift : ℤ → ℕ → ℤ
drift bound tick = pos 10 +ℤ int_div_euclid (pos tick *ℤ (bound -ℤ pos 10)) (pos TICKS)

-- The change lies in an interval: from -10 to x(t) if x(t) is positive, from x(t) to 10 if it is negative, and from -10 to 10 if it is
-- 0. This is the interval's low end.
abbrev pub low_end : ℤ → ℤ
low_end x = if int_lt x (pos 0) then x else neg_ℤ (pos 10)

-- the interval's high end
abbrev pub high_end : ℤ → ℤ
high_end x = if int_lt (pos 0) x then x else pos 10

-- The change is `lo + draw mod (hi - lo + 1)`: each whole number of the interval, for some draw.
abbrev pub change : ℤ → ℤ → ℕ → ℤ
change lo hi draw = lo +ℤ pos (draw % (unsigned_abs (hi -ℤ lo) + 1))

-- a price of at least 150 and at most 800 dollars
-- Row: price_stops_at_800_and_150 (worked_rows/proofs/Auctions.antt)
abbrev pub clamped : ℤ → ℕ
clamped (pos n) = max 150 (min 800 n)
clamped (negsuc n) = 150

-- The new price is the old price plus the change, but at least 150 and at most 800 dollars. For example, with bound 30 at tick 27,
-- x(27) = 10 + 27 * 20 / 54 = 20, so the change lies between -10 and 20, and with draw 30 it is -10 + 30 mod 31 = 20.
-- Row: draws_raise_and_lower_the_price (worked_rows/proofs/Auctions.antt)
abbrev pub next_price : ℕ → ℤ → ℕ → ℕ → ℕ
next_price price bound tick draw = clamped (pos price +ℤ change (low_end (drift bound tick)) (high_end (drift bound tick)) draw)

-- Only an `Update` changes the price.
abbrev pub price_after : ℤ → ℕ → Call → ℕ
price_after bound price (Update tick draw) = next_price price bound tick draw
price_after bound price call = price

-- the price after a past: it begins with the first price, and each admitted `Update` changes it
-- Row: falling_price_reaches_a_bid (worked_rows/proofs/Auctions.antt)
abbrev pub price : ℕ → ℤ → List Entry → ℕ
price first bound [] = first
price first bound (e ∷ past) = if is_admission e.reply then price_after bound (price first bound past) e.call else price first bound past
