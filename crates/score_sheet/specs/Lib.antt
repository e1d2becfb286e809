pub use Rattle.settlement.specs.Settlement
pub use Rattle.settlement.specs.SettledRanges
pub use Rattle.settlement.specs.Score
pub use Rattle.settlement.specs.Sheets
