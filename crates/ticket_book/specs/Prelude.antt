-- The names of crates below that this crate cites, passed on from one place.
pub use Rattle.tac_base.specs.Bids.{fault_of, left_fault, size_of, total_size}
pub use Rattle.tac_base.specs.Goods.{agents, clock}
pub use Rattle.tac_base.specs.declared.bids.Point.{Point}
pub use Rattle.tac_base.specs.declared.calls.Call.TheVariants.{Bid, Close, Own, Withdraw}
pub use Rattle.tac_base.specs.declared.calls.Trade.{Trade}
pub use Rattle.tac_base.specs.declared.limits.TheConstants.{BID_PRICE, BID_UNITS}
pub use Rattle.tac_base.specs.declared.units.Unit.{Unit}
pub use Rattle.auction_rules.specs.Board.{board, highest_buy, lowest, lowest_sell}
pub use Rattle.auction_rules.specs.Effects.{bought, sold}
pub use Rattle.auction_rules.specs.Follows.{Follows}
pub use Rattle.auction_rules.specs.History.{Entry, is_admission, is_closed, is_own}
pub use Rattle.auction_rules.specs.BookStanding.{last_bid, bid_units, last_bids, units_of_last, gone, standing_points_of, stand, left_of}
pub use Rattle.auction_rules.specs.BookRules.{IsLawful, admitted_trades, entry_of, has_standing, refusal}
pub use Rattle.auction_rules.specs.Refusals.{crosses_itself, is_wrong_caller, is_wrong_place}
pub use Rattle.auction_rules.specs.Setup.{Setup}
pub use Rattle.auction_rules.specs.Shown.{IsRankedBy, IsSortedBy, on_side, shown_unit}
pub use Rattle.auction_rules.specs.BidPoints.{left_points, signed_as}
pub use Rattle.auction_rules.specs.TicketMatch.{best, faces, goes_before, pair_trade}
pub use Rattle.auction_rules.specs.BookPairs.{if_crossing, not_taken, pair_with, pairs, partner, ticket_gone, ticket_trades, units_of_pairs}
pub use Rattle.auction_rules.specs.Traded.{Spends, traded}
pub use Rattle.auction_rules.specs.Units.{among, common_units, point_units, same_unit, units_of, without}
pub use Rattle.auction_rules.specs.declared.rules.Rules.TheVariants.{Tickets}
pub use Rattle.auction_rules.specs.declared.units.BidUnit.{BidUnit}
pub use Rattle.auction_rules.specs.declared.units.Placed.{Placed}
