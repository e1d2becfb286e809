pub mod Prelude
pub mod LogText
pub mod Logged
pub mod SheetText
pub mod LoggedSheet
pub mod LoggedGames
pub mod SoundLog
pub use Rattle.log_text.specs.LogText.{auction_line, auction_text, call_text, cash_call_text, cash_entry_line, cash_line, cash_reply_text, cash_text, cause_text, end_line, entry_line, entry_text, first_lines, head_text, histories_of, histories_text, link_line, missed_line, play_part, then_number, then_signed, trade_line, verdict_text}
pub use Rattle.log_text.specs.Logged.{AreCashNumbers, AreTradeNumbers, FitsCall, HaveOneHistory, HaveOwnPlayParts, IsAuction, IsCashEntry, IsEnd, IsHead, IsNumber, IsPlayed, IsShownCall, IsShownCashReply, IsShownEntry, IsShownReply, IsSigned, IsVerdict}
pub use Rattle.log_text.specs.SheetText.{agent_lines, cert_line, log_text, package_line, score_line, sheet_part}
pub use Rattle.log_text.specs.LoggedSheet.{HaveOwnLogs, IsKnownScore, IsShownPackage, IsShownScore, IsShownSheet}
pub use Rattle.log_text.specs.LoggedGames.{AreHistories, IsLogged, IsLoggedCash, IsLoggedCashEntry, IsLoggedEnd, IsLoggedHead, IsLoggedScore, IsLoggedVerdict, IsServedHead, LoggedGame, logged_text}
pub use Rattle.log_text.specs.Prelude.{AuctionHistory, Budget, Call, Cash, CashCall, CashEntry, CashReply, Cause, ClosedGame, Done, End, Entry, HasFiveDigits, Head, IsCall, IsEntry, IsHistory, IsNet, IsReply, IsTrade, Lost, None, Package, Play, Post, Quit, Read, ReadFault, Reply, Scored, Seated, Serve, Syntax, Taken, Trade, Tree, Trees, Trip, Verdict, WriteFault, WrongWord, all_goods, are_prices, are_trees, fault_of, forest_lines, is_tree, leaf, left_fault, lines_of_parts, more, no_trees, one_line, parts_of, point_words, reply_text, row_text, spelling, split, text_of, tree_count, tree_lines, words_of}
unfoldable pub use Rattle.log_text.specs.Prelude.{numeral, signed_numeral}
