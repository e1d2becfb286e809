pub mod Prelude
pub mod Sides
pub mod Book
pub mod Remains
pub use Rattle.ticket_book.specs.Book.{TicketBook, TicketsStandFor}
pub use Rattle.ticket_book.specs.Prelude.{BID_PRICE, Bid, BidUnit, Close, Entry, Follows, IsLawful, Own, Placed, Point, Setup, Spends, Tickets, Trade, Unit, Withdraw, admitted_trades, agents, among, best, bid_units, board, bought, clock, common_units, crosses_itself, entry_of, faces, fault_of, goes_before, gone, has_standing, highest_buy, if_crossing, is_admission, is_closed, is_own, is_wrong_caller, is_wrong_place, last_bid, last_bids, left_fault, left_of, left_points, lowest, lowest_sell, not_taken, on_side, pair_trade, pair_with, pairs, partner, point_units, refusal, same_unit, shown_unit, size_of, sold, stand, standing_points_of, ticket_gone, ticket_trades, total_size, traded, units_of, units_of_last, units_of_pairs, without}
pub use Rattle.ticket_book.specs.Sides.{AreSides, HaveSame, IsSideInOrder, IsSideSorted, SortedSides, after_bid, both, goes_first, is_same, of_side, others}
