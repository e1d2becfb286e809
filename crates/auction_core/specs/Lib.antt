pub mod Prelude
pub mod Calls
pub mod Books
pub mod Setups
pub mod Stored
pub mod Ranges
pub mod Struck
pub mod Auctions
pub mod KeptAuctions
pub mod ClosedGame
pub mod Laws
pub use Rattle.auction_core.specs.Calls.{IsFit}
pub use Rattle.auction_core.specs.Books.{Stands, held_by, units_left}
pub use Rattle.auction_core.specs.Setups.{AreEndowed, AreInRange, endow_by, kind_by, rules_by, setup_of}
pub use Rattle.auction_core.specs.Stored.{IsShown, entry_behind, entry_with, stored, AreChained, IsStored, count_trades}
pub use Rattle.auction_core.specs.Ranges.{IsEntry, IsHistory, IsToldInRange}
pub use Rattle.auction_core.specs.Struck.{struck_of}
pub use Rattle.auction_core.specs.Auctions.{AuctionHistory}
pub use Rattle.auction_core.specs.KeptAuctions.{IsAuctionKept, IsAuctionSound}
pub use Rattle.auction_core.specs.Laws.{ArePaid, HasNoSelfTrade, IsApart, IsPriced, IsUncrossed, KeepsPrice, KeepsQuote, KeepsSum, NoLower, NobodyOverpays, SellsAll, SellsRooms, TradesWhileOpen, auction_past, bid_at, bought_at}
pub use Rattle.auction_core.specs.Prelude.{BID_PRICE, BidUnit, Call, Follows, GameFile, HasCallNumbers, HasSmallNumbers, HasTwoParties, IsCall, IsEndowment, IsHolding, IsLawful, IsReply, IsShort, IsTrade, IsWithin, Legal, NoneLeaves, Placed, Point, Reply, Rules, Setup, Spends, Trade, admitted_reply, agents, all_trades, among, arriving, ask, bid_refusal, block, bought, buys_of, call_refusal, cap, clock, close_reply, closing_trade, closing_trades, common_units, crosses, entries_of, entry_by, entry_of, faces, fault_of, first_fault, flight_trades, gone, held_after, holding, house, is_sale, is_wrong_caller, is_wrong_place, kind_of, looked_at, net_units, nets, not_taken, pair_trade, pair_with, pairs, part, part_from, partner, point_fault, point_units, points_looked_at, price, price_after, published, publishes, refusal, reply_of, same_side, same_unit, sells, shown_ask, shown_bid, size_of, sold, stand, standing_points, standing_points_of, sum_held, ticket_trades, traded, trades_by, trades_of, units_from, winning, without}
