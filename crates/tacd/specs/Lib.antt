pub mod Prelude
pub mod SoundLogs
pub mod Service
pub mod Finishing
pub mod ServedLinks
pub mod Headline
pub use Rattle.tacd.specs.Finishing.{IsTextOfPlayed, LogAllows, WritesLog, first_part, hosted_by, lapsed_code}
pub use Rattle.tacd.specs.Headline.{WritesTrueLog}
pub use Rattle.tacd.specs.Prelude.{Allows, AuctionHistory, CameTo, ClockFaultExactly, Code, Dialect, Done, EndsOrStops, Entry, FilesState, Game, GameEnd, GameFile, GameRefusedExactly, HasCause, HasWelcome, HostedGame, IsCashOfPosts, IsComplete, IsCutShort, IsGameEnd, IsLegalGame, IsLinkOfLog, IsPlayedBy, IsPlayedOver, IsSeated, IsService, IsServiceEnd, IsSheetOf, IsSoundHead, IsVouched, IsVouchedText, Lapsed, LinkFault, LinkFaultExactly, LinkState, LinksState, LoggedGame, Lost, MaySelect, Memory, NAME_BYTES, NotesFailure, Outcome, Outside, PlayedGame, ReadFaultExactly, Reads, Refusal, Refused, Reports, ReportsOne, Rose, Runs, Scored, Seated, SinkState, Stopped, StopsAt, Success, Syntax, Taken, Takes, TextRefusedExactly, TickWait, TickerState, TookPart, TookWhole, Unsound, UnsoundExactly, UsageExactly, Verdict, WaitsForAll, WriteFaultExactly, WrongWord, bytes_of_words, code_number, code_of, command_of, exit_text, free_seats, fresh_link, gives_seat, head_of, hosted_game, known_then, logged_text, missed_of, outside_of, refusal_end, seatings, seats_given, seen_service, service_of, sheet_part}
pub use Rattle.tacd.specs.Service.{HasNoGame, IsGameFile, IsLogOf, PlayedAllows, ServeAllows, Serves, ServesGame, at_pace}
