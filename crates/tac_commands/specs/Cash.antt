-- The cash of the sheet, and the posts of the cash history.
use Rattle.std.specs.Prelude.{◌≡◌, map}
use Rattle.tac_base.specs.Goods.{agents}
use Rattle.trade_ledger.specs.CashHistory.{cash_total}
use Rattle.auction_core.specs.ClosedGame.{ClosedGame}
use Rattle.score_sheet.specs.Settlement.{settlement_of}

-- What each agent gained in the trades of all auctions, which is its cash in the sheet, is also the sum of its net amounts over all
-- posts of the cash history.
abbrev pub IsCashOfPosts : ClosedGame → Type 0
IsCashOfPosts closed = (settlement_of closed.auctions).cash ≡ map (cash_total closed.cash) agents
