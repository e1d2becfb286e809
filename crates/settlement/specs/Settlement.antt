-- What each agent has at the end of a game: the goods that it holds and the dollars that it gained, by the trades of all auctions.
use Rattle.std.specs.Prelude.{ℕ, List, ℤ, pos, ◌+ℤ◌, map, fold, reverse}
use Rattle.tac_base.specs.Goods.{agents}
use Rattle.auction_rules.specs.Effects.{all_trades, dollars, holding}
use Rattle.auction_core.specs.Auctions.{AuctionHistory}

-- what each agent has at the end, in the order of the agents
pub record Settlement : Type 0 where
  -- of each agent, how many units it holds of each good, in order
  pub holdings : List (List ℤ)
  -- of each agent, what it gained in trades, in dollars
  pub cash : List ℤ

-- how many units an agent holds of each good after all calls
-- Row: goods_and_cash_that_are_left (worked_rows/proofs/Logs.antt)
abbrev pub holdings_of : List AuctionHistory → ℕ → List ℤ
holdings_of auctions agent = map (λ auction. holding auction.setup (reverse auction.history) agent) auctions

-- what an agent gained in the trades of all auctions, in dollars
-- Row: goods_and_cash_that_are_left (worked_rows/proofs/Logs.antt)
abbrev pub cash_gained : List AuctionHistory → ℕ → ℤ
cash_gained auctions agent = fold ◌+ℤ◌ (pos 0) (map (λ auction. dollars (all_trades (reverse auction.history)) agent) auctions)

-- what each agent has after these auctions
-- Row: goods_and_cash_that_are_left (worked_rows/proofs/Logs.antt)
abbrev pub settlement_of : List AuctionHistory → Settlement
settlement_of auctions = record { holdings = map (holdings_of auctions) agents; cash = map (cash_gained auctions) agents }
