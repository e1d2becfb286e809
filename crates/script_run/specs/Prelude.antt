-- The names of crates below that this crate cites, passed on from one place.
pub use Rattle.tac_base.specs.Goods.{clock}
pub use Rattle.tac_base.specs.declared.bids.Point.{Point}
pub use Rattle.tac_base.specs.declared.calls.Call.{Call}
pub use Rattle.tac_base.specs.declared.calls.Call.TheVariants.{Bid, Close, Own, Publish, Update, Withdraw}
pub use Rattle.tac_base.specs.declared.calls.Reply.{Reply}
pub use Rattle.tac_base.specs.declared.calls.Trade.{Trade}
pub use Rattle.tac_base.specs.declared.limits.TheConstants.{AGENTS, AGENT_CALLS, AUCTION_ENTRIES, CASH_READINGS, GOODS, REPLY_TEXT, SESSION_LINES, TEXT_BYTES, TICKS}
pub use Rattle.text_forms.specs.Words.{parts_of, words_of}
pub use Rattle.bid_strings.specs.BidForm.{judged}
unfoldable pub use Rattle.bid_strings.specs.BidForm.{points_of}
pub use Rattle.line_protocol.specs.Heads.{Play}
pub use Rattle.line_protocol.specs.Replies.{said_text}
pub use Rattle.line_protocol.specs.declared.asking.Request.{Request}
pub use Rattle.line_protocol.specs.declared.asking.RequestFault.{RequestFault}
pub use Rattle.line_protocol.specs.declared.saying.Said.{Said}
pub use Rattle.line_protocol.specs.declared.saying.Said.TheVariants.{At, Spent}
pub use Rattle.game_text.specs.Games.{GameFile}
pub use Rattle.game_text.specs.Schedule.{clock_calls, ticks}
unfoldable pub use Rattle.game_text.specs.Schedule.{calls_at}
pub use Rattle.auction_rules.specs.Board.{board}
pub use Rattle.auction_rules.specs.Effects.{all_trades, nets}
pub use Rattle.auction_rules.specs.History.{Entry}
pub use Rattle.auction_rules.specs.BookRules.{IsLawful, Legal, entry_of, past_of}
pub use Rattle.auction_rules.specs.Legal.{cap, entries_of}
pub use Rattle.auction_rules.specs.Setup.{Setup}
pub use Rattle.turn_lock.specs.Part.{part}
pub use Rattle.trade_ledger.specs.CashHistory.{IsLegalCash, cash_cap, cash_reply_of, cash_total}
pub use Rattle.trade_ledger.specs.BookPosts.{Matched, due_to, is_post, posts_of}
pub use Rattle.trade_ledger.specs.Posts.{due_post, post_for}
pub use Rattle.trade_ledger.specs.declared.cash_calls.CashCall.{CashCall}
pub use Rattle.trade_ledger.specs.declared.cash_calls.CashCall.TheVariants.{Post}
pub use Rattle.trade_ledger.specs.declared.cash_calls.CashEntry.{CashEntry}
pub use Rattle.trade_ledger.specs.declared.cash_calls.CashReply.TheVariants.{Done}
pub use Rattle.auction_core.specs.Auctions.{AuctionHistory}
pub use Rattle.auction_core.specs.Calls.{IsFit}
pub use Rattle.auction_core.specs.ClosedGame.{ClosedGame, all_goods}
pub use Rattle.auction_core.specs.Setups.{setup_of}
pub use Rattle.auction_core.specs.declared.entries.Struck.{Struck}
pub use Rattle.score_sheet.specs.Sheets.{Scored}
pub use Rattle.tac_io.specs.Counts.{HasCause, Rose}
pub use Rattle.tac_io.specs.Known.{IsAtEnd, ReadsAtMost, known_then, then_known}
pub use Rattle.tac_io.specs.LineText.{has_end}
pub use Rattle.tac_io.specs.States.{FilesState, SinkState}
pub use Rattle.tac_io.specs.Taken.{TookPart, TookWhole}
pub use Rattle.clock_events.specs.Laws.{IsDueCall, IsFor, tick_calls_of}
pub use Rattle.clock_events.specs.MadeCalls.{calls_until}
pub use Rattle.game_log.specs.LogText.{histories_of, play_part, trade_line}
pub use Rattle.game_log.specs.ScoredGames.{IsSheetOf}
pub use Rattle.game_log.specs.SheetText.{sheet_part}
pub use Rattle.game_log.specs.ShownGames.{IsShowable}
