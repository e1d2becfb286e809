-- The names of crates below that this crate cites, passed on from one place.
pub use Rattle.tac_base.specs.Bids.{buys_of, fault_of, first_fault, left_fault, point_fault, size_of}
pub use Rattle.tac_base.specs.Goods.{agents, clock, house}
pub use Rattle.tac_base.specs.declared.bids.Point.{Point}
pub use Rattle.tac_base.specs.declared.calls.Call.{Call}
pub use Rattle.tac_base.specs.declared.calls.Call.TheVariants.{Bid}
pub use Rattle.tac_base.specs.declared.calls.Reply.{Reply}
pub use Rattle.tac_base.specs.declared.calls.Reply.TheVariants.{BelowQuote, Closed, NoBid, SelfCross, Sell, Taken, WrongCall}
pub use Rattle.tac_base.specs.declared.calls.Trade.{Trade}
pub use Rattle.tac_base.specs.declared.limits.TheConstants.{BID_PRICE, BID_UNITS}
