-- The names of crates below that this crate cites, passed on from one place.
pub use Rattle.tac_base.specs.Goods.{clock, house}
unfoldable pub use Rattle.tac_base.specs.Numerals.{signed_numeral}
pub use Rattle.tac_base.specs.Ranges.{IsCall, IsNet, IsReply, IsTrade}
pub use Rattle.tac_base.specs.declared.bids.BidFault.{BidFault}
pub use Rattle.tac_base.specs.declared.bids.Point.{Point}
pub use Rattle.tac_base.specs.declared.calls.Call.{Call}
pub use Rattle.tac_base.specs.declared.calls.Reply.{Reply}
pub use Rattle.tac_base.specs.declared.calls.Trade.{Trade}
pub use Rattle.tac_base.specs.declared.limits.TheConstants.{AGENTS, AUCTION_ENTRIES, BEST_TOTAL, BID_PRICE, BID_UNITS, CASH_DIGITS, CASH_ENTRIES, ENTRY_TRADES, GOODS, LAST_POSITION, LOG_LINKS, TEXT_BYTES, UPDATE_TICKS}
pub use Rattle.text_forms.specs.Lines.{NumberedLine, Remaining, at_line, block_in, block_of, due_of, first_number, is_nothing, lines_from, nothing_in, nothing_left, text_of, with_line}
pub use Rattle.text_forms.specs.Rows.{all_in, is_in, row_text, within}
unfoldable pub use Rattle.text_forms.specs.Rows.{row}
pub use Rattle.text_forms.specs.Steps.{lines_of_parts, one_line}
unfoldable pub use Rattle.text_forms.specs.Steps.{repeat}
pub use Rattle.text_forms.specs.Words.{parts_of, words_of}
pub use Rattle.text_forms.specs.declared.lines.BadLine.{BadLine}
pub use Rattle.text_forms.specs.declared.lines.Reason.{Reason}
pub use Rattle.text_forms.specs.declared.lines.Reason.TheVariants.{Spelling, TextEnd}
pub use Rattle.text_forms.specs.declared.rows.Column.{Column}
pub use Rattle.text_forms.specs.declared.rows.Digits.TheVariants.{Eighteen, Ten}
pub use Rattle.bid_strings.specs.BidForm.{judged}
unfoldable pub use Rattle.bid_strings.specs.BidForm.{points_of}
pub use Rattle.line_protocol.specs.Heads.{Head, Play, Serve, head_of}
pub use Rattle.line_protocol.specs.Replies.{reply_text}
pub use Rattle.line_protocol.specs.declared.admission.Cause.{Cause}
pub use Rattle.line_protocol.specs.declared.admission.Cause.TheVariants.{Budget, End, Quit, ReadFault, WriteFault}
pub use Rattle.line_protocol.specs.declared.admission.Verdict.{Verdict}
pub use Rattle.line_protocol.specs.declared.admission.Verdict.TheVariants.{Lost, Seated, Syntax, Taken, WrongWord}
pub use Rattle.packages.specs.Packages.{IsPackage, is_night, is_package}
pub use Rattle.packages.specs.declared.travel_packages.Package.{Package}
pub use Rattle.bound_cert.specs.Faults.{IsCertRefusal, or_cert_fault}
pub use Rattle.bound_cert.specs.Reading.{Reader, forest_by}
unfoldable pub use Rattle.bound_cert.specs.Reading.{cert_of, root_in, tree_in}
pub use Rattle.bound_cert.specs.Texts.{cert_text, tree_lines}
pub use Rattle.bound_cert.specs.Trees.{IsCertificate, Tree, Trees, leaf, more, split}
pub use Rattle.bound_cert.specs.declared.faults.CertFault.{CertFault}
pub use Rattle.trade_ledger.specs.declared.cash_calls.CashCall.TheVariants.{Post, Read}
pub use Rattle.trade_ledger.specs.declared.cash_calls.CashEntry.{CashEntry}
pub use Rattle.trade_ledger.specs.declared.cash_calls.CashReply.TheVariants.{Cash, Done}
pub use Rattle.auction_core.specs.Calls.{IsFit}
pub use Rattle.auction_core.specs.Ranges.{IsEntry, IsHistory}
pub use Rattle.auction_core.specs.Stored.{IsShown, IsStored, entry_behind, entry_with, stored}
pub use Rattle.settlement.specs.Sheets.{Scored}
pub use Rattle.log_text.specs.{FitsCall, IsLoggedCash, IsLoggedCashEntry, IsLoggedEnd, IsLoggedVerdict, IsSigned, call_text, cash_entry_line, cause_text, entry_line, link_line, verdict_text}
