pub mod Prelude
pub mod Holdings
pub mod CashHistory
pub mod CashKeeping
pub mod Posts
pub mod BookPosts
pub use Rattle.trade_ledger.specs.CashHistory.{IsFitCash, IsLegalCash, cash_cap, cash_reply_of, cash_total, gain_of, nets_of, reply_by}
pub use Rattle.trade_ledger.specs.CashKeeping.{IsCashCall, IsCashReply, IsCashSound, IsLoggableCash, IsWithin}
