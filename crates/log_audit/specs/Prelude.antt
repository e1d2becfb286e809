-- The names of crates below that this crate cites, passed on from one place.
pub use Rattle.tac_base.specs.Goods.{agents, clock}
pub use Rattle.tac_base.specs.declared.calls.Call.{Call}
pub use Rattle.tac_base.specs.declared.calls.Nets.{Nets}
pub use Rattle.tac_base.specs.declared.calls.Reply.{Reply}
pub use Rattle.tac_base.specs.declared.calls.Trade.{Trade}
pub use Rattle.tac_base.specs.declared.limits.TheConstants.{AUCTION_ENTRIES, CASH_ENTRIES, GOODS}
pub use Rattle.game_text.specs.Games.{GameFile}
pub use Rattle.game_text.specs.Schedule.{clock_calls, ticks}
unfoldable pub use Rattle.game_text.specs.Schedule.{calls_at}
pub use Rattle.auction_rules.specs.Effects.{nets}
pub use Rattle.auction_rules.specs.BookRules.{IsLawful, Legal, entry_by, entry_of, reply_of, trades_of}
pub use Rattle.auction_rules.specs.Legal.{cap, entries_of}
pub use Rattle.auction_rules.specs.Setup.{Setup}
pub use Rattle.trade_ledger.specs.CashHistory.{IsFitCash, IsLegalCash, cash_reply_of, cash_total, gain_of}
pub use Rattle.trade_ledger.specs.CashKeeping.{IsWithin}
pub use Rattle.trade_ledger.specs.BookPosts.{Matched, due_to, is_post, posts_of}
pub use Rattle.trade_ledger.specs.Posts.{due_post, is_post_at, post_for}
pub use Rattle.trade_ledger.specs.declared.cash_calls.CashCall.{CashCall}
pub use Rattle.trade_ledger.specs.declared.cash_calls.CashCall.TheVariants.{Post, Read}
pub use Rattle.trade_ledger.specs.declared.cash_calls.CashEntry.{CashEntry}
pub use Rattle.trade_ledger.specs.declared.cash_calls.CashReply.{CashReply}
pub use Rattle.trade_ledger.specs.declared.cash_calls.CashReply.TheVariants.{Cash, Done}
pub use Rattle.auction_core.specs.Auctions.{AuctionHistory}
pub use Rattle.auction_core.specs.ClosedGame.{all_goods}
pub use Rattle.auction_core.specs.Setups.{setup_of}
pub use Rattle.auction_core.specs.Stored.{IsShown, Shows, stored}
pub use Rattle.settlement.specs.Settlement.{settlement_of}
pub use Rattle.settlement.specs.Sheets.{IsDueScore, Scored}
pub use Rattle.log_text.specs.LoggedGames.{AreHistories, IsLogged, IsLoggedCash, IsLoggedCashEntry, IsLoggedScore, LoggedGame}
pub use Rattle.log_text.specs.SoundLog.{IsSound, IsSoundHead, auctions_in, clock_calls_in, logged_history, seatings}
