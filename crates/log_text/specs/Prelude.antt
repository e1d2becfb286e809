-- The names of crates below that this crate cites, passed on from one place.
pub use Rattle.tac_base.specs.Bids.{fault_of, left_fault}
unfoldable pub use Rattle.tac_base.specs.Numerals.{numeral, signed_numeral}
pub use Rattle.tac_base.specs.Ranges.{IsCall, IsCashReading, IsNet, IsPost, IsReply, IsTrade}
pub use Rattle.tac_base.specs.declared.calls.Call.{Call}
pub use Rattle.tac_base.specs.declared.calls.Reply.{Reply}
pub use Rattle.tac_base.specs.declared.calls.Trade.{Trade}
pub use Rattle.tac_base.specs.declared.limits.TheConstants.{AGENTS, BEST_TOTAL, CASH_DIGITS, CASH_ENTRIES, GOODS, LINKS, LOG_LINKS, TEXT_BYTES, TICKS}
pub use Rattle.text_forms.specs.Lines.{text_of}
pub use Rattle.text_forms.specs.Rows.{row_text}
pub use Rattle.text_forms.specs.Steps.{lines_of_parts, one_line}
pub use Rattle.text_forms.specs.Words.{parts_of, words_of}
pub use Rattle.bid_strings.specs.Spelling.{HasFiveDigits, point_words, spelling}
pub use Rattle.line_protocol.specs.Heads.{Head, Play, Serve}
pub use Rattle.line_protocol.specs.Replies.{reply_text}
pub use Rattle.line_protocol.specs.declared.admission.Cause.{Cause}
pub use Rattle.line_protocol.specs.declared.admission.Cause.TheVariants.{Budget, End, Quit, ReadFault, WriteFault}
pub use Rattle.line_protocol.specs.declared.admission.Verdict.{Verdict}
pub use Rattle.line_protocol.specs.declared.admission.Verdict.TheVariants.{Lost, Seated, Syntax, Taken, WrongWord}
pub use Rattle.packages.specs.declared.travel_packages.Package.{Package}
pub use Rattle.packages.specs.declared.travel_packages.Package.TheVariants.{None, Trip}
pub use Rattle.bound_cert.specs.Texts.{forest_lines, tree_lines}
pub use Rattle.bound_cert.specs.Trees.{IsCertificate, Tree, Trees, are_prices, are_trees, is_tree, leaf, more, no_trees, split, tree_count}
pub use Rattle.auction_rules.specs.History.{Entry}
pub use Rattle.trade_ledger.specs.declared.cash_calls.CashCall.{CashCall}
pub use Rattle.trade_ledger.specs.declared.cash_calls.CashCall.TheVariants.{Post, Read}
pub use Rattle.trade_ledger.specs.declared.cash_calls.CashEntry.{CashEntry}
pub use Rattle.trade_ledger.specs.declared.cash_calls.CashReply.{CashReply}
pub use Rattle.trade_ledger.specs.declared.cash_calls.CashReply.TheVariants.{Cash, Done}
pub use Rattle.auction_core.specs.Auctions.{AuctionHistory}
pub use Rattle.auction_core.specs.ClosedGame.{ClosedGame, all_goods}
pub use Rattle.auction_core.specs.Ranges.{IsEntry, IsHistory}
pub use Rattle.settlement.specs.Sheets.{IsSheet, Scored}
