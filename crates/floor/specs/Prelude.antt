-- The names of crates below that this crate cites, passed on from one place.
pub use Rattle.tac_base.specs.Goods.{clock, house}
pub use Rattle.tac_base.specs.declared.bids.Points.{Points}
pub use Rattle.tac_base.specs.declared.calls.Board.{Board}
pub use Rattle.tac_base.specs.declared.calls.Call.{Call}
pub use Rattle.tac_base.specs.declared.calls.Call.TheVariants.{Bid, Close, Publish, Update}
pub use Rattle.tac_base.specs.declared.calls.Nets.{Nets}
pub use Rattle.tac_base.specs.declared.calls.Reply.TheVariants.{Taken}
pub use Rattle.tac_base.specs.declared.limits.TheConstants.{AGENT_CALLS, CALLERS, CASH_READINGS, GOODS, UPDATE_TICKS}
pub use Rattle.auction_rules.specs.Effects.{bought, nets, sold}
pub use Rattle.auction_rules.specs.History.{Entry}
pub use Rattle.auction_rules.specs.BookRules.{IsLawful, Legal, admitted_trades, entry_by, entry_of, refusal}
pub use Rattle.auction_rules.specs.Legal.{cap}
pub use Rattle.auction_rules.specs.Setup.{Setup}
pub use Rattle.turn_lock.specs.Notes.{AreNotes}
pub use Rattle.turn_lock.specs.Part.{part}
pub use Rattle.turn_lock.specs.Passes.{AreFreshPasses, IsFreshPass, LockId, caller_of, lock_id, lock_of, made_by, noted_by, passes_of, returned_by, returned_to, seen_by, start_of, turns_left}
pub use Rattle.turn_lock.specs.TurnRule.{AreKnown}
pub use Rattle.turn_lock.specs.declared.kept.Kept.{Ghosts}
pub use Rattle.turn_lock.specs.declared.pass.Pass.{Pass}
pub use Rattle.turn_lock.specs.declared.view.Returned.{Returned}
pub use Rattle.trade_ledger.specs.CashHistory.{IsLegalCash, cash_cap, cash_reply_of, cash_total}
pub use Rattle.trade_ledger.specs.BookPosts.{HoldSame, Matched, due_posts, due_to, is_post, posts_of}
pub use Rattle.trade_ledger.specs.Posts.{due_post, post_for}
pub use Rattle.trade_ledger.specs.declared.cash_calls.CashCall.TheVariants.{Post, Read}
pub use Rattle.trade_ledger.specs.declared.cash_calls.CashEntry.{CashEntry}
pub use Rattle.trade_ledger.specs.declared.cash_calls.CashReply.TheVariants.{Cash, Done}
pub use Rattle.auction_core.specs.Auctions.{AuctionHistory}
pub use Rattle.auction_core.specs.ClosedGame.{ClosedGame, all_goods}
pub use Rattle.auction_core.specs.Setups.{setup_of}
