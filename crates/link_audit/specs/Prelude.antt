-- The names of crates below that this crate cites, passed on from one place.
pub use Rattle.tac_base.specs.declared.calls.Board.{Board}
pub use Rattle.tac_base.specs.declared.calls.Call.{Call}
pub use Rattle.tac_base.specs.declared.calls.Nets.{Nets}
pub use Rattle.tac_base.specs.declared.calls.Reply.{Reply}
pub use Rattle.tac_base.specs.declared.calls.Trade.{Trade}
pub use Rattle.tac_base.specs.declared.limits.TheConstants.{AGENT_CALLS, AUCTION_ENTRIES, CASH_ENTRIES, CASH_READINGS, GOODS, LINE_BYTES, LINK_BYTES, SESSION_LINES}
pub use Rattle.text_forms.specs.Lines.{GoesOn, text_of}
pub use Rattle.line_protocol.specs.Replies.{IsOneLine, fault_number, fault_words, reply_words, said_text, said_words}
pub use Rattle.line_protocol.specs.declared.admission.Cause.{Cause}
pub use Rattle.line_protocol.specs.declared.admission.Verdict.{Verdict}
pub use Rattle.line_protocol.specs.declared.admission.Verdict.TheVariants.{Lost, Seated, Syntax, Taken, WrongWord}
pub use Rattle.line_protocol.specs.declared.asking.Request.{Request}
pub use Rattle.line_protocol.specs.declared.asking.RequestFault.{RequestFault}
pub use Rattle.line_protocol.specs.declared.saying.Said.{Said}
pub use Rattle.line_protocol.specs.declared.saying.Said.TheVariants.{At, Quote}
pub use Rattle.game_text.specs.Games.{GameFile}
pub use Rattle.auction_rules.specs.Effects.{nets}
pub use Rattle.auction_rules.specs.BookRules.{Legal, entry_of}
pub use Rattle.auction_rules.specs.Legal.{cap, entries_of}
pub use Rattle.turn_lock.specs.Notes.{AreNotes}
pub use Rattle.turn_lock.specs.Part.{part, part_from}
pub use Rattle.trade_ledger.specs.Posts.{due_post, post_for}
pub use Rattle.trade_ledger.specs.declared.cash_calls.CashCall.TheVariants.{Post, Read}
pub use Rattle.trade_ledger.specs.declared.cash_calls.CashEntry.{CashEntry}
pub use Rattle.auction_core.specs.Auctions.{AuctionHistory}
pub use Rattle.auction_core.specs.ClosedGame.{ClosedGame, all_goods}
pub use Rattle.auction_core.specs.Setups.{setup_of}
pub use Rattle.auction_core.specs.Stored.{IsShown, Shows}
pub use Rattle.floor.specs.ClosedBoards.{board_of}
pub use Rattle.tac_io.specs.AllAnswers.{all_answers, ended_line}
pub use Rattle.tac_io.specs.LineText.{BeginsWithLine, has_end}
pub use Rattle.tac_io.specs.States.{LinkState}
pub use Rattle.tac_io.specs.declared.line_got.LineGot.{LineGot}
pub use Rattle.tac_io.specs.declared.line_got.LineGot.TheVariants.{End, TooLong}
pub use Rattle.agent_gate.specs.Dialects.{Dialect}
pub use Rattle.agent_gate.specs.Gates.{Seats, greeting_of, seat_verdict, seats_after, verdict_of, word_verdict}
pub use Rattle.agent_gate.specs.Items.{AreItems, Asks, IsItem, Item, Overlong}
pub use Rattle.agent_gate.specs.Served.{Session}
pub use Rattle.agent_gate.specs.SessionEnds.{reply_line}
pub use Rattle.agent_gate.specs.Sessions.{lines_of}
pub use Rattle.agent_gate.specs.Transcript.{IsTranscript}
pub use Rattle.agent_gate.specs.Turns.{AreLawful, CallDenied, Called, CashDenied, CashRead, IsLawfulTurn, IsNotBehind, Quit, Quoted, Refused, Skipped, Turn, asked_call, boards_shown, cash_by, cash_made, entry_made, has_left, is_leaving, is_reading, item_of, made_at, reading, said_of, shown_by, shown_length}
pub use Rattle.agent_gate.specs.Welcome.{welcome_lines, welcome_text}
pub use Rattle.json_dialect.specs.JsonReplies.{fault_text, json_place, json_point_text, json_text, openness, pair_text, points_text, quote_members, reply_members}
pub use Rattle.log_text.specs.LoggedGames.{IsLogged, IsLoggedCash, IsLoggedCashEntry, LoggedGame}
pub use Rattle.log_text.specs.SoundLog.{IsSound, auctions_in, gives_seat, logged_history}
pub use Rattle.log_audit.specs.Flaws.{HasDuePost, IsDuePost}
pub use Rattle.game_run.specs.Admission.{free_seats, seats_given}
pub use Rattle.game_run.specs.Hosted.{HostedGame, hosted_game}
pub use Rattle.game_run.specs.LinkRuns.{IsSeated}
pub use Rattle.game_run.specs.PlayedGame.{PlayedGame}
