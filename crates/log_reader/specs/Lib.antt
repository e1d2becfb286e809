pub mod Prelude
pub mod HeadForms
pub mod EntryForms
pub mod SheetForms
pub mod LogReading
pub mod Faults
pub mod Histories
pub mod Logs
pub mod Numbers
pub use Rattle.log_reader.specs.HeadForms.{digit_of, formed, is_text, number_at, read_numbers, end_of_words, ended_of, link_of_words, numbers_by, read_cause, read_refused, read_verdict, seated_of}
unfoldable pub use Rattle.log_reader.specs.HeadForms.{read_end, read_link, read_missed}
pub use Rattle.log_reader.specs.EntryForms.{first_is, after_space, before_space, bid_by, call_of_words, cash_entry_by, made_post, net_column, post_columns, post_of, read_caller, read_of, read_reading, read_update, sides_of, starts_post, word_call}
unfoldable pub use Rattle.log_reader.specs.EntryForms.{auction_of, cash_entry_of, read_cash_line, read_entry, trade_of, read_call}
pub use Rattle.log_reader.specs.SheetForms.{amount_column, any_column, checked, read_trip, score_columns, trip_columns, trip_in}
unfoldable pub use Rattle.log_reader.specs.SheetForms.{package_of, read_count, read_score}
pub use Rattle.log_reader.specs.LogReading.{begins, block_by, cert_by, head_by, is_served, line_by, refused_line, served_in}
unfoldable pub use Rattle.log_reader.specs.LogReading.{log_in, as_long_as, cash_in, cert_in, entry_in, head_in, history_in, score_in}
pub use Rattle.log_reader.specs.Faults.{IsLogReading, IsLogRefusal, fault_by, log_fault, or_log_fault}
pub use Rattle.log_reader.specs.Numbers.{AreLow, IsLowFault, last_number, nothing_begins}
pub use Rattle.log_reader.specs.Prelude.{AUCTION_ENTRIES, BadLine, BidFault, Budget, Call, Cash, CashEntry, Cause, CertFault, Column, Done, ENTRY_TRADES, End, FitsCall, Head, IsCall, IsCertRefusal, IsCertificate, IsEntry, IsFit, IsHistory, IsLoggedCash, IsLoggedCashEntry, IsLoggedEnd, IsLoggedVerdict, IsNet, IsPackage, IsReply, IsShown, IsSigned, IsTrade, Lost, NumberedLine, Package, Play, Point, Post, Quit, Read, ReadFault, Reader, Reason, Remaining, Reply, Scored, Seated, Serve, Syntax, TEXT_BYTES, Taken, TextEnd, Trade, Tree, Trees, Verdict, WriteFault, WrongWord, all_in, at_line, block_in, block_of, call_text, cash_entry_line, cause_text, cert_text, clock, due_of, entry_behind, entry_line, entry_with, first_number, forest_by, head_of, is_in, is_night, is_nothing, is_package, judged, leaf, lines_from, lines_of_parts, link_line, more, nothing_in, nothing_left, one_line, or_cert_fault, parts_of, reply_text, row_text, split, text_of, tree_lines, verdict_text, with_line, within, words_of}
unfoldable pub use Rattle.log_reader.specs.Prelude.{cert_of, points_of, repeat, root_in, row, signed_numeral, tree_in}
