-- The names of crates below that this crate cites, passed on from one place.
pub use Rattle.tac_base.specs.declared.limits.TheConstants.{NAME_BYTES, TEXT_BYTES}
pub use Rattle.line_protocol.specs.Heads.{head_of}
pub use Rattle.line_protocol.specs.declared.admission.Verdict.{Verdict}
pub use Rattle.line_protocol.specs.declared.admission.Verdict.TheVariants.{Lost, Seated, Syntax, Taken, WrongWord}
pub use Rattle.game_text.specs.Games.{GameFile}
pub use Rattle.auction_rules.specs.History.{Entry}
pub use Rattle.auction_core.specs.Auctions.{AuctionHistory}
pub use Rattle.score_sheet.specs.Sheets.{Scored}
pub use Rattle.tac_io.specs.Counts.{HasCause, Rose}
pub use Rattle.tac_io.specs.Known.{NotesFailure, Reads, Takes, known_then}
pub use Rattle.tac_io.specs.States.{FilesState, LinkState, LinksState, MaySelect, SinkState, TickWait, TickerState}
pub use Rattle.tac_io.specs.Taken.{TookPart, TookWhole}
pub use Rattle.clock_events.specs.Clocking.{WaitsForAll}
pub use Rattle.agent_gate.specs.Dialects.{Dialect}
pub use Rattle.log_text.specs.LoggedGames.{LoggedGame, logged_text}
pub use Rattle.log_text.specs.SoundLog.{IsService, IsSoundHead, gives_seat, seatings}
pub use Rattle.game_log.specs.ScoredGames.{IsSheetOf}
pub use Rattle.game_log.specs.SheetText.{log_text, sheet_part}
pub use Rattle.game_run.specs.Admission.{free_seats, seats_given}
pub use Rattle.game_run.specs.LinkRuns.{CameTo}
pub use Rattle.game_run.specs.Hosted.{HostedGame, hosted_game}
pub use Rattle.game_run.specs.LinkRuns.{IsSeated}
pub use Rattle.game_run.specs.Outcomes.{IsGameEnd, IsPlayedOver, missed_of}
pub use Rattle.game_run.specs.PlayedGame.{IsLegalGame, IsPlayedBy, PlayedGame}
pub use Rattle.game_run.specs.declared.run.GameEnd.{GameEnd}
pub use Rattle.link_audit.specs.Links.{HasBytes, HasWelcome, IsLinkOfLog, IsVouched, fresh_link}
pub use Rattle.tac_commands.specs.Allowed.{Allows, IsServiceEnd, IsVouchedText}
pub use Rattle.tac_commands.specs.Cash.{IsCashOfPosts}
pub use Rattle.tac_commands.specs.Causes.{ClockFaultExactly, GameRefusedExactly, IsComplete, LinkFaultExactly, ReadFaultExactly, TextRefusedExactly, UnsoundExactly, UsageExactly, WriteFaultExactly}
pub use Rattle.tac_commands.specs.Codes.{code_number, code_of, exit_text}
pub use Rattle.tac_commands.specs.Commands.{command_of, seen_service}
pub use Rattle.tac_commands.specs.Ends.{EndsOrStops}
pub use Rattle.tac_commands.specs.FileKinds.{read_as}
pub use Rattle.tac_commands.specs.Outcomes.{Done, Lapsed, Outcome, Refused, Stopped, Unsound, refusal_end}
pub use Rattle.tac_commands.specs.Outsides.{Outside, outside_of}
pub use Rattle.tac_commands.specs.Reporting.{IsCutShort, Reports, ReportsOne}
pub use Rattle.tac_commands.specs.Runs.{Runs, StopsAt}
pub use Rattle.tac_commands.specs.Services.{Service, bytes_of_words, service_of}
pub use Rattle.tac_commands.specs.declared.code.Code.{Code}
pub use Rattle.tac_commands.specs.declared.code.Code.TheVariants.{Success}
pub use Rattle.tac_commands.specs.declared.file_kinds.FileKind.TheVariants.{Game, Log}
pub use Rattle.tac_commands.specs.declared.refusals.Refusal.{Refusal}
pub use Rattle.tac_commands.specs.declared.refusals.Refusal.TheVariants.{LinkFault, Memory}
