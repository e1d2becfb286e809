-- Parties of trades, and prices of flights, for the laws of the auctions.
use Rattle.std.specs.Prelude.{ℕ, ◌≢◌, ◌≤◌}
use Rattle.tac_base.specs.declared.calls.Trade.{Trade}

-- a trade has two parties
abbrev pub HasTwoParties : Trade → Type 0
HasTwoParties trade = trade.buyer ≢ trade.seller

-- a price of flights
abbrev pub IsFlightPrice : ℕ → Type 0
IsFlightPrice dollars = (150 ≤ dollars) × (dollars ≤ 800)
