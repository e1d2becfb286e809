pub mod Prelude
pub mod NumberedLines
pub mod FlawTexts
pub mod Codes
pub mod FileKinds
pub mod Services
pub mod Commands
pub mod Words
pub mod Outcomes
pub mod VouchingTexts
pub mod Steps
pub mod Files
pub mod HeardFiles
pub mod Outsides
pub mod Runs
pub mod Cash
pub mod Trials
pub mod SoundTexts
pub mod Allowed
pub mod TableRuns
pub mod Reporting
pub mod Ends
pub mod Causes
pub mod Selected
pub mod Prompt
pub use Rattle.tac_commands.specs.FlawTexts.{unsound_text, flaw_text}
pub use Rattle.tac_commands.specs.Codes.{code_number, code_of, exit_text}
pub use Rattle.tac_commands.specs.FileKinds.{Value, bytes_in, lines_or_fault, logged_or_fault, most_bytes, read_as, refusal_of, refused_code, script_in}
pub use Rattle.tac_commands.specs.Services.{dialect_in, service_of, bytes_of_words}
pub use Rattle.tac_commands.specs.Commands.{Audit, Batch, BatchCommand, Command, Hotel, IsRequested, Make, Play, Serve, Show, Solve, Step, Table, Trial, Upgrade, Vouch, Worth, batch_of, in_pairs, seen_batch, seen_service, service_or_batch}
pub use Rattle.tac_commands.specs.Words.{IsShortBatch, IsWithinBatch}
pub use Rattle.tac_commands.specs.Outcomes.{Done, Lapsed, Outcome, Refused, Stopped, Unread, Unsound, Unwritten, refusal_end}
pub use Rattle.tac_commands.specs.Steps.{Reads, file, EndsWith, Hears, Judges, NamedFile}
pub use Rattle.tac_commands.specs.Files.{Content, HasFault, IsFileRead, IsNotRead, MaySelectTwo}
pub use Rattle.tac_commands.specs.HeardFiles.{IsScriptOutcome, IsGiven, IsScriptHeard, IsUnheard}
pub use Rattle.tac_commands.specs.Outsides.{outside_of}
pub use Rattle.tac_commands.specs.SoundTexts.{EndsInSoundLog, IsOnlyGameIn, log_of_game}
pub use Rattle.tac_commands.specs.Allowed.{Allows, IsFlawText, IsPlayText, IsSaidSound, IsServiceEnd, StepAllows, WritesDue, WritesInParts, WritesOrStops, audit_steps, batch_steps, link_file_steps, link_steps, play_steps, step_steps, steps_of, table_steps, vouch_steps, IsTrial, IsValued}
pub use Rattle.tac_commands.specs.TableRuns.{EndsAtPair, HasAdded, IsAdded, TableGoesOn, outcome_of}
pub use Rattle.tac_commands.specs.Reporting.{IsCutShort, Reports, ReportsOne}
pub use Rattle.tac_commands.specs.Ends.{EndsBatch, EndsSteps, EndsUnasked, Finishes, script_end, step_end, EndsOrStops, Stops, WritesWhole}
pub use Rattle.tac_commands.specs.Causes.{AreGood, ClockFaultExactly, GameRefusedExactly, HasBad, HasGoodFiles, HasRefused, HasRefusedGame, HasRefusedText, HasUnsound, HasUnsoundLog, Holds, IsComplete, IsFaultless, IsGoodEnd, IsQuiet, LinkFaultExactly, ReadFaultExactly, TextRefusedExactly, UnsoundExactly, UsageExactly}
pub use Rattle.tac_commands.specs.Selected.{EndsAt, EndsAtAudit, Selects, SelectsFiles}
pub use Rattle.tac_commands.specs.Prompt.{HearsPromptly, IsPromptBatch, IsPromptCommand, StepsPromptly}
pub use Rattle.tac_commands.specs.Prelude.{AreCashNumbers, AreHistories, AreStandingsOf, Asks, AuctionHistory, BadLine, Call, CashCall, CashEntry, CashReply, Cause, ClosedGame, Dialect, FILE_NAMES, FilesState, FitsCall, Flaw, GameFault, GameFile, GameLine, Gave, HasReadCause, HasSeats, HaveOneHistory, HotelLine, IsAtEnd, IsAuction, IsBadScript, IsBidLine, IsBidScript, IsCashEntry, IsFile, IsFirstOut, IsFitCash, IsFound, IsGoodScript, IsHead, IsJudged, IsLawfulGame, IsLoggedCash, IsLoggedCashEntry, IsLoggedEnd, IsLoggedHead, IsLoggedVerdict, IsNumber, IsPlayOut, IsPlayed, IsPrinted, IsPrompt, IsRanged, IsSheet, IsSheetOf, IsShowable, IsShownCashReply, IsSigned, IsSolvedText, IsSound, IsSoundHead, IsSummary, IsTooLong, IsUnwritten, IsVerdict, Kept, LINK_BYTES, LinksState, LoggedGame, MADE_REQUESTS, Matched, MaySelect, NAME_BYTES, PlayCount, PlaysScript, RequestFault, Rose, Scored, ScriptFault, Setup, SinkState, StepFault, StepsGame, StopsThere, TEXT_BYTES, Tells, TellsFault, TellsGame, Tick, TickerState, TookPart, TookWhole, Trade, Verdict, Vouching, agents, all_goods, all_trades, auction_with, auctions_in, bid_line, canonical_text, cash_gained, cash_total, clock, closed_game, count_of_agent, dollars, due_post, due_to, first_lines, first_out, game_script, has_quit, histories_of, histories_text, is_line_of, is_post, is_quit, is_tick, is_tick_line, judge_game_line, judged_game_line, known_then, logged_seats, logged_text, made_game, nets, play_out, play_part, post_for, posts_of, quits, read_good, replies, reply_by, request_of_words, rules_by, script_lines_from, script_of, seatings, settlement_of, setup_of, sheet_part, text_of, then_known, then_lines, ticked_often, ticks_of, upgraded, whole_game, with_points, ◌>>=◌}
unfoldable pub use Rattle.tac_commands.specs.Prelude.{account_of, game_of, log_of, numeral, request_of}
