-- The names of crates below that this crate cites, passed on from one place.
pub use Rattle.tac_base.specs.Bids.{buys_of, fault_of, first_fault, point_fault, size_of}
pub use Rattle.tac_base.specs.Goods.{agents, clock, house, parties}
pub use Rattle.tac_base.specs.Kinds.{kind_of}
pub use Rattle.tac_base.specs.Ranges.{HasCallNumbers, HasSmallNumbers, IsCall, IsReply, IsTrade}
pub use Rattle.tac_base.specs.declared.bids.Point.{Point}
pub use Rattle.tac_base.specs.declared.calls.Call.{Call}
pub use Rattle.tac_base.specs.declared.calls.Reply.{Reply}
pub use Rattle.tac_base.specs.declared.calls.Trade.{Trade}
pub use Rattle.tac_base.specs.declared.limits.TheConstants.{AUCTION_ENTRIES, BID_PRICE, BID_UNITS, ENTRY_TRADES, SHOWN_PRICE, UPDATE_TICKS}
pub use Rattle.game_text.specs.Accounts.{IsHolding}
pub use Rattle.game_text.specs.Endowments.{IsEndowment}
pub use Rattle.game_text.specs.Games.{GameFile}
pub use Rattle.auction_rules.specs.Ask.{ask, publishes}
pub use Rattle.auction_rules.specs.BookHotels.{published, closing_trade, closing_trades, winning}
pub use Rattle.auction_rules.specs.Board.{board, shown_ask, shown_bid}
pub use Rattle.auction_rules.specs.Effects.{all_trades, bought, holding, net_units, nets, sold}
pub use Rattle.auction_rules.specs.FlightRule.{price, price_after}
pub use Rattle.auction_rules.specs.BookStanding.{is_sale, looked_at, flight_trades, points_looked_at, standing_points, gone, standing_points_of, stand}
pub use Rattle.auction_rules.specs.Follows.{Follows}
pub use Rattle.auction_rules.specs.Laws.{HasTwoParties, IsFlightPrice}
pub use Rattle.auction_rules.specs.BookRules.{IsLawful, Legal, admitted_reply, close_reply, entry_by, entry_of, reply_of, trades_by, trades_of, bid_refusal, call_refusal, refusal}
pub use Rattle.auction_rules.specs.Legal.{cap, entries_of}
pub use Rattle.auction_rules.specs.Refusals.{is_wrong_caller, is_wrong_place, sells}
pub use Rattle.auction_rules.specs.Setup.{Setup}
pub use Rattle.auction_rules.specs.TicketMatch.{arriving, crosses, faces, pair_trade}
pub use Rattle.auction_rules.specs.BookPairs.{not_taken, pair_with, pairs, partner, ticket_trades}
pub use Rattle.auction_rules.specs.Traded.{IsShort, Spends, traded}
pub use Rattle.auction_rules.specs.Units.{among, block, common_units, point_units, same_side, same_unit, units_from, without}
pub use Rattle.auction_rules.specs.declared.rules.Rules.{Rules}
pub use Rattle.auction_rules.specs.declared.units.BidUnit.{BidUnit}
pub use Rattle.auction_rules.specs.declared.units.Placed.{Placed}
pub use Rattle.turn_lock.specs.Part.{part, part_from}
pub use Rattle.trade_ledger.specs.CashKeeping.{IsWithin}
pub use Rattle.trade_ledger.specs.Holdings.{NoneLeaves, held_after, sum_held}
