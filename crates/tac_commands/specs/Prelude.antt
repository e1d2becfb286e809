-- The names of crates below that this crate cites, passed on from one place.
pub use Rattle.tac_base.specs.Goods.{agents, clock}
pub use Rattle.tac_base.specs.Numerals.{below}
unfoldable pub use Rattle.tac_base.specs.Numerals.{numeral}
pub use Rattle.tac_base.specs.declared.calls.Call.{Call}
pub use Rattle.tac_base.specs.declared.calls.Trade.{Trade}
pub use Rattle.tac_base.specs.declared.limits.TheConstants.{FILE_NAMES, GAME_BYTES, GOODS, LINK_BYTES, MADE_REQUESTS, NAME_BYTES, TEXT_BYTES}
pub use Rattle.text_forms.specs.Lines.{text_of}
pub use Rattle.text_forms.specs.Steps.{lines_of_parts, one_line, ◌>>=◌}
pub use Rattle.line_protocol.specs.Requests.{read_good, request_of_words, with_points}
unfoldable pub use Rattle.line_protocol.specs.Requests.{request_of}
pub use Rattle.line_protocol.specs.declared.admission.Cause.{Cause}
pub use Rattle.line_protocol.specs.declared.admission.Verdict.{Verdict}
pub use Rattle.line_protocol.specs.declared.asking.RequestFault.{RequestFault}
pub use Rattle.game_text.specs.Accounts.{AccountFile}
unfoldable pub use Rattle.game_text.specs.Accounts.{account_of}
pub use Rattle.game_text.specs.Games.{GameFile, canonical_text, upgraded}
unfoldable pub use Rattle.game_text.specs.Games.{game_of}
pub use Rattle.game_text.specs.declared.fault.GameFault.{GameFault}
pub use Rattle.draw_maker.specs.BidScripts.{IsBidLine, IsBidScript, is_tick}
pub use Rattle.draw_maker.specs.Games.{made_game}
pub use Rattle.draw_maker.specs.Scripts.{bid_line}
unfoldable pub use Rattle.draw_maker.specs.Scripts.{made_script}
pub use Rattle.allocator.specs.Solutions.{IsSolvedText}
pub use Rattle.auction_rules.specs.Effects.{all_trades, dollars, nets}
pub use Rattle.auction_rules.specs.Setup.{Setup}
pub use Rattle.trade_ledger.specs.CashHistory.{IsFitCash, cash_total, reply_by}
pub use Rattle.trade_ledger.specs.BookPosts.{Matched, due_to, is_post, posts_of}
pub use Rattle.trade_ledger.specs.Posts.{due_post, post_for}
pub use Rattle.trade_ledger.specs.declared.cash_calls.CashCall.{CashCall}
pub use Rattle.trade_ledger.specs.declared.cash_calls.CashEntry.{CashEntry}
pub use Rattle.trade_ledger.specs.declared.cash_calls.CashReply.{CashReply}
pub use Rattle.trade_ledger.specs.declared.cash_calls.CashReply.TheVariants.{Done}
pub use Rattle.auction_core.specs.Auctions.{AuctionHistory}
pub use Rattle.auction_core.specs.ClosedGame.{ClosedGame, all_goods}
pub use Rattle.auction_core.specs.Setups.{rules_by, setup_of}
pub use Rattle.score_sheet.specs.Settlement.{cash_gained, settlement_of}
pub use Rattle.score_sheet.specs.Sheets.{IsSheet, Scored}
pub use Rattle.tac_io.specs.Counts.{Rose}
pub use Rattle.tac_io.specs.Known.{IsAtEnd, known_then, then_known}
pub use Rattle.tac_io.specs.Reading.{IsFile, IsTooLong}
pub use Rattle.tac_io.specs.States.{FilesState, LinksState, MaySelect, SinkState, TickerState}
pub use Rattle.tac_io.specs.Taken.{TookPart, TookWhole}
pub use Rattle.agent_gate.specs.Dialects.{Dialect}
pub use Rattle.log_text.specs.LogText.{first_lines, histories_of, histories_text, play_part}
pub use Rattle.log_text.specs.Logged.{AreCashNumbers, FitsCall, HaveOneHistory, IsAuction, IsCashEntry, IsHead, IsNumber, IsPlayed, IsShownCashReply, IsSigned, IsVerdict}
pub use Rattle.log_text.specs.LoggedGames.{AreHistories, IsLogged, IsLoggedCash, IsLoggedCashEntry, IsLoggedEnd, IsLoggedHead, IsLoggedVerdict, LoggedGame, logged_text}
pub use Rattle.log_text.specs.SheetText.{sheet_part}
pub use Rattle.log_text.specs.SoundLog.{IsSound, IsSoundHead, auctions_in, logged_seats, seatings}
unfoldable pub use Rattle.log_reader.specs.Logs.{log_of}
pub use Rattle.log_audit.specs.Flaws.{IsFirstFlaw, IsFound}
pub use Rattle.log_audit.specs.declared.findings.Flaw.{Flaw}
pub use Rattle.tourney.specs.StandingsTexts.{IsPrinted}
pub use Rattle.tourney.specs.Tallies.{AreStandingsOf, Kept}
pub use Rattle.game_log.specs.LogRanges.{IsRanged}
pub use Rattle.game_log.specs.ScoredGames.{IsSheetOf}
pub use Rattle.game_log.specs.ShownGames.{HasSeats, IsShowable}
pub use Rattle.script_run.specs.GameOuts.{IsGoodScript, closed_game, first_out, play_out}
pub use Rattle.script_run.specs.GameScripts.{count_of_agent, game_script, has_quit, is_line_of, is_quit, is_tick_line, judge_game_line, judged_game_line, quits, ticks_of}
pub use Rattle.script_run.specs.HeardReads.{HasReadCause, IsPrompt, StopsThere}
pub use Rattle.script_run.specs.HotelScripts.{hotel_out, script_of}
pub use Rattle.script_run.specs.LawfulGames.{IsLawfulGame}
pub use Rattle.script_run.specs.OneThreadRun.{auction_with, played, replies, ticked_often, whole_game}
pub use Rattle.script_run.specs.PlayOuts.{IsBadScript, IsFirstOut, IsPlayOut, PlaysScript}
pub use Rattle.script_run.specs.QuietGames.{IsSummary}
pub use Rattle.script_run.specs.ScriptLines.{BadLine, script_lines_from, then_lines}
pub use Rattle.script_run.specs.SteppedGames.{Gave, IsUnwritten, StepsGame, Tells, TellsFault, TellsGame}
pub use Rattle.script_run.specs.declared.fault.ScriptFault.{ScriptFault}
pub use Rattle.script_run.specs.declared.fault.StepFault.{StepFault}
pub use Rattle.script_run.specs.declared.game.lines.GameLine.{GameLine}
pub use Rattle.script_run.specs.declared.game.lines.GameLine.TheVariants.{Asks, Tick}
pub use Rattle.script_run.specs.declared.game.play_count.PlayCount.{PlayCount}
pub use Rattle.script_run.specs.declared.hotel.lines.HotelLine.{HotelLine}
pub use Rattle.link_audit.specs.Vouchings.{IsFirstDifference, IsJudged, IsYes}
pub use Rattle.link_audit.specs.declared.vouching.Difference.{Difference}
pub use Rattle.link_audit.specs.declared.vouching.Vouching.{Vouching}
