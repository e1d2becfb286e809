-- The names of crates below that this crate cites, passed on from one place.
pub use Rattle.tac_base.specs.Bids.{buys_of, fault_of, first_fault, left_fault, point_fault, size_of, total_size}
pub use Rattle.tac_base.specs.Goods.{agents, clock, house}
pub use Rattle.tac_base.specs.declared.bids.Point.{Point}
pub use Rattle.tac_base.specs.declared.calls.Call.{Call}
pub use Rattle.tac_base.specs.declared.calls.Call.TheVariants.{Bid, Close, Own, Publish, Update, Withdraw}
pub use Rattle.tac_base.specs.declared.calls.Reply.TheVariants.{Closed, Done, NoBid, Sell, Taken, WrongCall}
pub use Rattle.tac_base.specs.declared.calls.Trade.{Trade}
pub use Rattle.auction_rules.specs.Effects.{bought, sales_by, sold}
pub use Rattle.auction_rules.specs.BookStanding.{looked_at, flight_trades, is_sold, points_looked_at, standing_points, units_of_last, gone, standing_points_of, stand, by_position, owned_by, placed_bids, sale, standing_of, last_bid, left_of}
pub use Rattle.auction_rules.specs.FlightRule.{next_price, price}
pub use Rattle.auction_rules.specs.Follows.{Follows}
pub use Rattle.auction_rules.specs.History.{Entry, is_closed, is_own}
pub use Rattle.auction_rules.specs.BookRules.{admitted_trades, entry_of, has_standing, refusal}
pub use Rattle.auction_rules.specs.Refusals.{is_wrong_caller, is_wrong_place, sells}
pub use Rattle.auction_rules.specs.Setup.{Setup}
pub use Rattle.auction_rules.specs.BidPoints.{left_points, signed_as}
pub use Rattle.auction_rules.specs.Traded.{IsShort, Spends, traded}
pub use Rattle.auction_rules.specs.Units.{among, common_units, point_units, units_from, units_of, without}
pub use Rattle.auction_rules.specs.declared.rules.Rules.{Rules}
pub use Rattle.auction_rules.specs.declared.rules.Rules.TheVariants.{Flight}
pub use Rattle.auction_rules.specs.declared.units.BidUnit.{BidUnit}
pub use Rattle.auction_rules.specs.declared.units.Placed.{Placed}
pub use Rattle.auction_rules.specs.declared.units.StandingPoint.{StandingPoint}
