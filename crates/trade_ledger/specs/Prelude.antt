-- The names of crates below that this crate cites, passed on from one place.
pub use Rattle.tac_base.specs.Goods.{clock, house, parties}
pub use Rattle.tac_base.specs.declared.calls.Nets.{Nets}
pub use Rattle.tac_base.specs.declared.calls.Trade.{Trade}
pub use Rattle.tac_base.specs.declared.limits.TheConstants.{CASH_ENTRIES}
pub use Rattle.auction_rules.specs.Effects.{buys_by, dollars, net_units, nets, sales_by}
pub use Rattle.auction_rules.specs.History.{Entry}
pub use Rattle.turn_lock.specs.Part.{part, part_from}
