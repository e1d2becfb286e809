-- The names of crates below that this crate cites, passed on from one place.
pub use Rattle.tac_base.specs.Goods.{agents}
pub use Rattle.tac_base.specs.declared.limits.TheConstants.{AGENTS, GOODS, HOLDING}
pub use Rattle.game_text.specs.Accounts.{IsHolding}
pub use Rattle.auction_rules.specs.Effects.{all_trades, dollars, holding}
pub use Rattle.trade_ledger.specs.CashKeeping.{IsWithin}
pub use Rattle.auction_core.specs.Auctions.{AuctionHistory}
