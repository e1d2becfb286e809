-- The ranges of calls, replies, trades, posts and cash readings in a log.
use Rattle.std.specs.Prelude.{◌≡◌, ℕ, ◌^◌, ◌<◌, ◌≤◌, ⊤, List, ℤ, negsuc, pos, ◌≤ℤ◌, None, length, unsigned_abs, All}
use Rattle.tac_base.specs.Bids.{fault_of, left_fault}
use Rattle.tac_base.specs.Goods.{clock, house}
use Rattle.tac_base.specs.declared.calls.Call.{Call}
use Rattle.tac_base.specs.declared.calls.Call.TheVariants.{Bid, Update}
use Rattle.tac_base.specs.declared.calls.Reply.{Reply}
use Rattle.tac_base.specs.declared.calls.Reply.TheVariants.{Taken, Own, Sold, BelowQuote}
use Rattle.tac_base.specs.declared.calls.Trade.{Trade}
use Rattle.tac_base.specs.declared.limits.TheConstants.{BID_PRICE, BID_UNITS, CASH_DIGITS, LAST_POSITION, SHOWN_HOLDING, SHOWN_PRICE, UPDATE_TICKS}

-- the points are those of a bid; an update is for one of the ticks 1..53, and its draw has 32 bits
abbrev pub IsCall : Call → Type 0
IsCall (Bid points) = fault_of points ≡ None
IsCall (Update tick draw) = (1 ≤ tick) × (tick ≤ UPDATE_TICKS) × (draw ≤ 4294967295)
IsCall call = ⊤

-- the part of this range that the type of a call ensures: all, except that an update may be for the last tick
abbrev pub HasCallNumbers : Call → Type 0
HasCallNumbers (Bid points) = fault_of points ≡ None
HasCallNumbers (Update tick draw) = (1 ≤ tick) × (draw ≤ 4294967295)
HasCallNumbers call = ⊤

-- numbers of units have 8 bits, prices and holdings are in the ranges shown, and points are within the limits of a bid
abbrev pub IsReply : Reply → Type 0
IsReply (Taken bought sold) = (bought ≤ 255) × (sold ≤ 255)
IsReply (Own holding left) = (unsigned_abs holding ≤ unsigned_abs SHOWN_HOLDING) × (left_fault left ≡ None)
IsReply (Sold units price) = (units ≤ 255) × (price ≤ SHOWN_PRICE)
IsReply (BelowQuote need at offered) = (need ≤ 255) × (at ≤ SHOWN_PRICE) × (offered ≤ 255)
IsReply reply = ⊤

-- the part of this range that the type of a reply ensures: numbers of units have 8 bits, and points are within the limits
abbrev pub HasSmallNumbers : Reply → Type 0
HasSmallNumbers (Taken bought sold) = (bought ≤ 255) × (sold ≤ 255)
HasSmallNumbers (Own holding left) = left_fault left ≡ None
HasSmallNumbers (Sold units price) = units ≤ 255
HasSmallNumbers (BelowQuote need at offered) = (need ≤ 255) × (offered ≤ 255)
HasSmallNumbers reply = ⊤

-- a trade of a good between two of the nine parties: 1 to 16 units at 0 to 10000 dollars
pub record IsTrade (good : ℕ) (t : Trade) : Type 0 where
  pub good_is : t.good ≡ good
  pub buyer : t.buyer ≤ house
  pub seller : t.seller ≤ house
  pub some : 1 ≤ t.units
  pub few : t.units ≤ BID_UNITS
  pub price : t.price ≤ BID_PRICE

-- a signed number of 32 bits
pub record IsNet (dollars : ℤ) : Type 0 where
  pub low : negsuc 2147483647 ≤ℤ dollars
  pub high : dollars ≤ℤ pos 2147483647

-- a post by a caller, of an entry of a good at a position, with a net for each of the nine parties
abbrev pub IsPost : ℕ → ℕ → ℕ → List ℤ → Type 0
IsPost caller good position dollars = (caller ≤ clock) × (good ≤ 27) × (position ≤ LAST_POSITION) × (length dollars ≡ 9) × All IsNet dollars

-- an agent's reading of its own cash
abbrev pub IsCashReading : ℕ → ℕ → ℤ → Type 0
IsCashReading caller agent dollars = (caller ≤ 7) × (agent ≡ caller) × (unsigned_abs dollars < 10 ^ CASH_DIGITS)
