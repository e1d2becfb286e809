-- The names of crates below that this crate cites, passed on from one place.
pub use Rattle.tac_base.specs.Bids.{size_of, total_size}
pub use Rattle.tac_base.specs.Goods.{agents, clock, house}
pub use Rattle.tac_base.specs.declared.bids.Point.{Point}
pub use Rattle.tac_base.specs.declared.calls.Reply.{Reply}
pub use Rattle.tac_base.specs.declared.calls.Reply.TheVariants.{Closed, Done, Sold, Taken, WrongCall}
pub use Rattle.tac_base.specs.declared.calls.Trade.{Trade}
pub use Rattle.tac_base.specs.declared.limits.TheConstants.{AGENTS, BID_PRICE, BID_UNITS, STANDING_UNITS}
pub use Rattle.tac_base.specs.declared.units.Unit.{Unit}
pub use Rattle.auction_rules.specs.Ask.{ask}
pub use Rattle.auction_rules.specs.BookHotels.{published, precedes, winning}
pub use Rattle.auction_rules.specs.Follows.{Follows}
pub use Rattle.auction_rules.specs.History.{Entry, is_closed, is_own}
pub use Rattle.auction_rules.specs.BookStanding.{last_bid, bid_units, last_bids, units_of_bids, units_of_last, standing_points_of, stand, left_of}
pub use Rattle.auction_rules.specs.Refusals.{hotel_refusal, is_wrong_caller, is_wrong_place}
pub use Rattle.auction_rules.specs.BookRules.{refusal}
pub use Rattle.auction_rules.specs.Setup.{Setup}
pub use Rattle.auction_rules.specs.Shown.{AreShown, IsRankedBy, IsSortedBy, on_side, shown_unit}
pub use Rattle.auction_rules.specs.Traded.{IsShort, Spends, traded}
pub use Rattle.auction_rules.specs.Units.{units_of}
pub use Rattle.auction_rules.specs.declared.rules.Rules.{Rules}
pub use Rattle.auction_rules.specs.declared.rules.Rules.TheVariants.{Hotel}
pub use Rattle.auction_rules.specs.declared.units.BidUnit.{BidUnit}
pub use Rattle.auction_rules.specs.declared.units.Placed.{Placed}
