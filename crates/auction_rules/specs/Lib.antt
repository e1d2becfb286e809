pub mod Prelude
pub mod Units
pub mod Shown
pub mod Setup
pub mod History
pub mod Effects
pub mod FlightRule
pub mod TicketMatch
pub mod Standing
pub mod BidPoints
pub mod FlightSales
pub mod Ask
pub mod HotelClosing
pub mod Refusals
pub mod Legal
pub mod Board
pub mod BookPairs
pub mod BookStanding
pub mod BookHotels
pub mod BookRules
pub mod Part
pub mod Follows
pub mod Traded
pub mod Laws
pub use Rattle.auction_rules.specs.Units.{among, block, common_units, point_units, same_side, same_unit, units_from, units_of, without}
pub use Rattle.auction_rules.specs.History.{Entry, is_admission, is_bid, is_close, is_closed, is_own, bids_found, current_bids}
pub use Rattle.auction_rules.specs.Effects.{bought, holding, sold}
pub use Rattle.auction_rules.specs.FlightRule.{clamped, price, price_after}
pub use Rattle.auction_rules.specs.TicketMatch.{arriving, best, crosses, faces, goes_before, pair_trade, partner_of, ticket_pairs}
pub use Rattle.auction_rules.specs.Standing.{replaced_units, standing_units, units_found, units_traded}
pub use Rattle.auction_rules.specs.BidPoints.{left_points, points_among, points_of_agent, signed_as}
pub use Rattle.auction_rules.specs.FlightSales.{flight_sales, point_sale}
pub use Rattle.auction_rules.specs.Ask.{ask, published_price}
pub use Rattle.auction_rules.specs.HotelClosing.{gets_room, room_sales, rooms_won}
pub use Rattle.auction_rules.specs.Refusals.{crosses_itself, first_refusal, is_wrong_caller, is_wrong_place, offered, other_refusal, sells}
pub use Rattle.auction_rules.specs.Legal.{AreDueEntries, IsLegalHistory, call_reply, call_trades, cap, closing_reply, entries_of, entry_due}
pub use Rattle.auction_rules.specs.Board.{highest_buy, lowest, lowest_sell, shown_ask, shown_bid}
pub use Rattle.auction_rules.specs.BookPairs.{if_crossing, not_taken, pair_with, pairs, partner, ticket_gone, ticket_trades, units_of_pairs}
pub use Rattle.auction_rules.specs.BookStanding.{bid_after, bid_units, by_position, flight_trades, gone, gone_by, is_sold, last_bid, last_bids, left_of, left_standing, looked_at, owned_by, placed_bids, points_looked_at, sale, stand, standing_of, standing_points, standing_points_of, units_of_bids, units_of_last}
pub use Rattle.auction_rules.specs.BookHotels.{closing_trade, closing_trades, need, precedes, published, quote_to_beat, sold_units, winning, wins}
pub use Rattle.auction_rules.specs.BookRules.{IsLawful, admitted_reply, admitted_trades, bid_refusal, call_refusal, close_reply, entry_by, entry_of, has_standing, past_of, refusal, trades_by, trades_of}
pub use Rattle.auction_rules.specs.Traded.{Spends, traded}
pub use Rattle.auction_rules.specs.Laws.{HasTwoParties, IsFlightPrice}
pub use Rattle.auction_rules.specs.Prelude.{BID_PRICE, BID_UNITS, BelowQuote, Bid, Call, Closed, NoBid, Point, Reply, SelfCross, Sell, Taken, Trade, WrongCall, agents, buys_of, clock, fault_of, first_fault, house, left_fault, point_fault, size_of}
