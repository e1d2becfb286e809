pub mod Prelude
pub mod Links
pub mod Vouchings
pub mod Ahead
pub mod Courses
pub mod Walks
pub use Rattle.link_audit.specs.Ahead.{AreAllowed, AreBoards, AreLegal, ArePosted, ArePostedAt, AreRow, AsksOnly, FindsNext, FindsPosts, FindsShown, FitsReply, HasNext, HasTruePosts, IsAhead, IsAllowed, IsAnswerTo, IsAsked, IsEasier, IsLeaving, IsNextInLog, IsNote, IsOver, IsPossible, IsStep, IsStuck, IsTable, IsTaken, IsWide, MayBeReadAs, Remains, Subject, behind, behind_call, behind_turn, calls_left, cash_caller, cash_left, entry_caller, rest_of, start, subject_of}
pub use Rattle.link_audit.specs.Courses.{AreAnswered, AreNext, Course, FinishesLog, HasCourse, HaveTurns, IsDifferent, IsFirstLeft, IsFirstLine, IsKept, IsLowestLeft, IsStop, behind_course, has_entry, walked}
pub use Rattle.link_audit.specs.Links.{AccountsFor, AllowsCause, AsksToLeave, HasBytes, HasLineReplies, HasNoLine, HasWelcome, IsLinkOfLog, IsVouched, LeavesNothing, MayAsk, MayUseUp, VouchesForLinks, closed_in, fresh_link, logged_ends, logged_verdicts, whole_lines, whole_lines_after}
pub use Rattle.link_audit.specs.Prelude.{AGENT_CALLS, AUCTION_ENTRIES, AreItems, AreLawful, AreNotes, Asks, At, AuctionHistory, BeginsWithLine, Board, CASH_ENTRIES, CASH_READINGS, Call, CallDenied, Called, CashDenied, CashEntry, CashRead, Cause, ClosedGame, Dialect, End, GOODS, GameFile, GoesOn, HostedGame, IsDuePost, IsItem, IsLawfulTurn, IsLogged, IsLoggedCash, IsLoggedCashEntry, IsNotBehind, IsOneLine, IsSeated, IsShown, IsSound, IsTranscript, Item, LINE_BYTES, LINK_BYTES, Legal, LineGot, LinkState, LoggedGame, Lost, Nets, Overlong, PlayedGame, Post, Quit, Quote, Quoted, Read, Refused, Reply, Request, RequestFault, SESSION_LINES, Said, Seated, Seats, Session, Shows, Skipped, Syntax, Taken, TooLong, Trade, Turn, Verdict, WrongWord, all_answers, all_goods, asked_call, auctions_in, board_of, boards_shown, cap, cash_by, cash_made, due_post, ended_line, entries_of, entry_made, entry_of, fault_number, fault_text, fault_words, free_seats, gives_seat, greeting_of, has_end, has_left, hosted_game, is_leaving, is_reading, item_of, json_place, json_point_text, json_text, lines_of, logged_history, made_at, nets, openness, pair_text, part, points_text, post_for, quote_members, reading, reply_line, reply_members, reply_words, said_of, said_text, said_words, seat_verdict, seats_after, seats_given, setup_of, shown_by, shown_length, text_of, verdict_of, welcome_lines, welcome_text, word_verdict}
pub use Rattle.link_audit.specs.Vouchings.{DiffersBehind, HasNumbers, HasOneDifference, HasSeatAndLines, IsDifferenceOf, IsFirstDifference, IsJudged, IsWhole, IsWholeLink, IsYes, IsYesExactlyIf, LacksWelcome, RefutesCause, memory_replies, replies_to}
pub use Rattle.link_audit.specs.Walks.{DiffersAfter, EndsByLeaving, EndsSo, FindsBehind, FindsEnd, HasCauseFor, HasCauseOf, HasHeard, HasLeft, HasPassed, HasStayed, IsAccounted, IsAheadAt, IsBehind, IsEnding, IsFinished, IsHeard, IsPassed, MayEndBy, TakesSeat, TellsMemory, lines_at, replies_at}
