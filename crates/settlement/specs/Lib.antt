pub mod Prelude
pub mod Settlement
pub mod SettledRanges
pub mod Score
pub mod Sheets
pub use Rattle.settlement.specs.Prelude.{AuctionHistory, HOLDING, IsHolding, IsWithin, agents, all_trades, dollars, holding}
pub use Rattle.settlement.specs.SettledRanges.{AreHoldings}
pub use Rattle.settlement.specs.Settlement.{cash_gained, holdings_of, settlement_of}
