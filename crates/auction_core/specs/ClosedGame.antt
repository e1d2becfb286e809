-- What a contract sees of a game that accepts no more calls.
use Rattle.std.specs.Prelude.{ℕ, List, [], ◌∷◌}
use Rattle.trade_ledger.specs.declared.cash_calls.CashEntry.{CashEntry}
use Rattle.auction_core.specs.Auctions.{AuctionHistory}

-- a game that accepts no more calls: the auctions in the order of their goods, and the cash history
pub record ClosedGame : Type 0 where
  pub auctions : List AuctionHistory
  pub cash : List CashEntry

-- the goods, 0 to 27, in order
abbrev pub all_goods : List ℕ
all_goods = 0 ∷ 1 ∷ 2 ∷ 3 ∷ 4 ∷ 5 ∷ 6 ∷ 7 ∷ 8 ∷ 9 ∷ 10 ∷ 11 ∷ 12 ∷ 13 ∷ 14 ∷ 15 ∷ 16 ∷ 17 ∷ 18 ∷ 19 ∷ 20 ∷ 21 ∷ 22 ∷ 23 ∷ 24 ∷ 25 ∷ 26 ∷ 27 ∷ []
