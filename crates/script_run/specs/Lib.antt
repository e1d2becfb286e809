pub mod Prelude
pub mod Replies
pub mod HotelLines
pub mod HotelScripts
pub mod LineCounts
pub mod HotelRuns
pub mod HotelOuts
pub mod ScriptLines
pub mod GameLines
pub mod GameScripts
pub mod GameStates
pub mod OneThreadRun
pub mod GameCounts
pub mod CallCounts
pub mod OpenGames
pub mod Tables
pub mod GameRuns
pub mod GameOuts
pub mod PlayOuts
pub mod PlayedGames
pub mod QuietGames
pub mod QuietRuns
pub mod LawfulGames
pub mod HeardScripts
pub mod HeardReads
pub mod SteppedGames
pub mod HeldLines
pub mod Stepping
pub use Rattle.script_run.specs.HotelLines.{agent_of, asked}
unfoldable pub use Rattle.script_run.specs.HotelLines.{hotel_line_of}
pub use Rattle.script_run.specs.HotelScripts.{count_of_caller, hotel_entry_text, hotel_out, judge_hotel_line, judged_hotel_line, one_hotel, script_past, limited_hotel_line}
pub use Rattle.script_run.specs.HotelRuns.{HasRunHotel, RunsHotelLine, hotel_called}
pub use Rattle.script_run.specs.HotelOuts.{RunsLines, BeginsHotel, RunsScript}
pub use Rattle.script_run.specs.ScriptLines.{BadLine, script_lines_from, script_reason_number, then_lines, lines_of_text}
pub use Rattle.script_run.specs.GameScripts.{count_of_agent, game_script, has_quit, is_line_of, is_quit, is_tick_line, judge_game_line, judged_game_line, limited_game_line, ticks_of}
pub use Rattle.script_run.specs.GameStates.{GameState, call_turn, called, cash_turn, clocked, entry_at, opening, past_at, reading_of, readings_of, reads, ticked, turn}
pub use Rattle.script_run.specs.OneThreadRun.{auction_with, closed_of, count_in, played, replies, ticked_often, whole_game}
pub use Rattle.script_run.specs.GameCounts.{AreGameCounts}
pub use Rattle.script_run.specs.CallCounts.{count_at, no_calls_counted}
pub use Rattle.script_run.specs.OpenGames.{BeginsTick, SeenGame, all_setups, pasts_of, setups_of, state_of}
pub use Rattle.script_run.specs.Tables.{AreCounted, HasClockRoom, due, made}
pub use Rattle.script_run.specs.GameRuns.{HasRunGame, IsGranted, PlaysGameLine, PlaysLines}
pub use Rattle.script_run.specs.GameOuts.{IsGoodScript, closed_game, first_out, play_out}
pub use Rattle.script_run.specs.PlayOuts.{IsFirstOut, IsPlayOut, PlaysScript}
pub use Rattle.script_run.specs.PlayedGames.{HasPlayed, IsPlayedToEnd, PlaysToEnd, WritesPlayed, first_text}
pub use Rattle.script_run.specs.QuietRuns.{IsQuietFault, PlaysQuietly, quiet_of}
pub use Rattle.script_run.specs.LawfulGames.{IsAskedInRange, IsLawfulGame, IsLine, calls_by, closed_history}
pub use Rattle.script_run.specs.HeardScripts.{AtEnd, AtFault, BadAt, Before, BrokenOff, Heard, Open, Overlong, Reading, Standing, Whole, heard, heard_from, heard_lines, script_standing, standing_after}
pub use Rattle.script_run.specs.HeardReads.{HasReadCause, IsPrompt, StopsThere}
pub use Rattle.script_run.specs.SteppedGames.{StepsGame, Tells, TellsGame}
pub use Rattle.script_run.specs.HeldLines.{IsHeld}
pub use Rattle.script_run.specs.Stepping.{Answered, AnswersPiece, EndsScript, HasAnswered, HearsBytes, HearsLines, IsStepping, StopsAtLine, TookMore, stopped_by}
pub use Rattle.script_run.specs.Prelude.{AUCTION_ENTRIES, At, AuctionHistory, Bid, Call, CashCall, CashEntry, Close, ClosedGame, Done, Entry, FilesState, GameFile, HasCause, IsAtEnd, IsDueCall, IsFit, IsFor, IsLawful, IsLegalCash, IsSheetOf, IsShowable, Legal, Matched, Own, Play, Point, Post, Publish, REPLY_TEXT, Reply, Request, RequestFault, Rose, Said, Scored, Setup, SinkState, Spent, Struck, TEXT_BYTES, TookPart, TookWhole, Trade, Update, Withdraw, all_goods, all_trades, board, calls_until, cap, cash_cap, cash_reply_of, cash_total, clock, clock_calls, due_post, due_to, entries_of, entry_of, has_end, histories_of, is_post, judged, known_then, nets, part, parts_of, play_part, post_for, posts_of, setup_of, sheet_part, then_known, tick_calls_of}
unfoldable pub use Rattle.script_run.specs.Prelude.{calls_at, points_of}
