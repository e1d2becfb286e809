-- The names of crates below that this crate cites, passed on from one place.
pub use Rattle.tac_base.specs.declared.limits.TheConstants.{AGENTS, CASH_ENTRIES, GOODS, TEXT_BYTES}
pub use Rattle.line_protocol.specs.Heads.{Head, Play, Serve, head_of}
pub use Rattle.game_text.specs.Games.{GameFile, IsGame}
pub use Rattle.bound_cert.specs.Texts.{tree_lines}
pub use Rattle.trade_ledger.specs.CashKeeping.{IsLoggableCash, IsWithin}
pub use Rattle.trade_ledger.specs.declared.cash_calls.CashEntry.{CashEntry}
pub use Rattle.auction_core.specs.Auctions.{AuctionHistory}
pub use Rattle.auction_core.specs.ClosedGame.{ClosedGame}
pub use Rattle.auction_core.specs.Ranges.{IsHistory}
pub use Rattle.score_sheet.specs.SettledRanges.{AreHoldings, IsSettlement}
pub use Rattle.score_sheet.specs.Settlement.{settlement_of}
pub use Rattle.score_sheet.specs.Sheets.{IsScored, Scored}
pub use Rattle.tac_io.specs.States.{SinkState}
pub use Rattle.tac_io.specs.Taken.{TookPart, TookWhole}
pub use Rattle.tac_io.specs.Written.{WritesPiece}
pub use Rattle.tac_io.specs.declared.failed.Failed.{Failed}
pub use Rattle.log_text.specs.LogText.{cash_text, first_lines, head_text, histories_of, histories_text, play_part}
pub use Rattle.log_text.specs.Logged.{FitsCall, IsAuction, IsCash, IsCashEntry, IsEnd, IsHead, IsPlayed, IsVerdict}
pub use Rattle.log_text.specs.LoggedGames.{AreHistories, IsLogged, IsLoggedCashEntry, IsLoggedHead, IsLoggedScore, IsLoggedVerdict, LoggedGame, logged_text}
pub use Rattle.log_text.specs.SheetText.{agent_lines, sheet_part}
