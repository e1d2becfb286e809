pub mod Prelude
pub mod BidForm
pub mod Spelling
pub use Rattle.tac_base.specs.Bids
