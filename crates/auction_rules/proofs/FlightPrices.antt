-- A flight's price stays in 150..800.
use Rattle.std.proofs.Common.{ℕ, Bool, true, false, cond, List, [], ◌∷◌, arith, ℤ, pos, negsuc}
use Rattle.tac_base.specs.declared.calls.Call.{Call}
use Rattle.tac_base.specs.declared.calls.Call.TheVariants.{Bid, Withdraw, Own as OwnCall, Update, Publish, Close}
use Rattle.auction_rules.specs.{Entry, is_admission, clamped, price_after, price, IsFlightPrice}

clamped_within : (sum : ℤ) → IsFlightPrice (clamped sum)
clamped_within (pos n) = (omega arith, omega arith)
clamped_within (negsuc n) = (omega arith, omega arith)

price_after_within : (bound : ℤ) (dollars : ℕ) (call : Call) → IsFlightPrice dollars → IsFlightPrice (price_after bound dollars call)
price_after_within bound dollars (Update tick draw) within = clamped_within _
price_after_within bound dollars (Bid points) within = within
price_after_within bound dollars Withdraw within = within
price_after_within bound dollars OwnCall within = within
price_after_within bound dollars Publish within = within
price_after_within bound dollars Close within = within

-- after any past the price is in range, if the first one was
pub flight_price_within : (first : ℕ) (bound : ℤ) (past : List Entry) → IsFlightPrice first → IsFlightPrice (price first bound past)
flight_price_within first bound [] within = within
flight_price_within first bound (e ∷ past) within = by_test (is_admission e.reply) (flight_price_within first bound past within)
  where
    by_test : (b : Bool) → IsFlightPrice (price first bound past) → IsFlightPrice (cond b (price_after bound (price first bound past) e.call) (price first bound past))
    by_test true before = price_after_within bound (price first bound past) e.call before
    by_test false before = before
