pub mod Prelude
pub mod Admission
pub mod Hosted
pub mod PlayedGame
pub mod PlayedLinks
pub mod LinkRuns
pub mod Outcomes
pub mod SeatedLinks
pub mod Arriving
pub mod Seatings
pub mod Gathering
pub mod GameSessions
pub mod ReservedMemory
pub use Rattle.game_run.specs.Admission.{IsLost, IsSentOrCut, MayGoOn, free_seats, is_seated, refusal_line, seats_given}
pub use Rattle.game_run.specs.Hosted.{HostedGame, hosted_game}
pub use Rattle.game_run.specs.PlayedGame.{IsLegalGame, IsClockTranscript}
pub use Rattle.game_run.specs.LinkRuns.{CameTo, IsLeftUnplayed, IsSeated, TakesLinks}
pub use Rattle.game_run.specs.PlayedLinks.{AllFitVerdicts, FitsVerdict, IsPlayedGame, IsSeatedLink, TakenLink}
pub use Rattle.game_run.specs.Outcomes.{IsGameEnd, IsNotPlayed, IsPlayedOver, IsRunFault, missed_of}
pub use Rattle.game_run.specs.SeatedLinks.{AreFilled, AreLinksOf, IsFilled, IsLinkOf, agent_seats_after}
pub use Rattle.game_run.specs.Arriving.{AddsArrival, AreKept, AreTaken, BeginsWith, HoldsInTurn, IsFirstRead, IsGreeted, IsGreeting, IsOnlySent, IsRefused, IsTakenIn, IsTurnedAway, IsUnseated, Keeps, seat_of}
pub use Rattle.game_run.specs.Seatings.{AreBoth, AreEightPlayed, AreEightReady, FloorIds, IsPlayedOut, IsPlayedSeat, IsReadyClock, IsReadySeat, IsServedBy, eight_of, four_of, played_end, played_link, two_of, BothOver}
unfoldable pub use Rattle.game_run.specs.Seatings.{AreTakenPlayed}
pub use Rattle.game_run.specs.Gathering.{AddsPlayed, HasCapacity, IsAgents, TakesCapacity}
pub use Rattle.game_run.specs.GameSessions.{IsAgentsPart, IsPlayedThrough, IsServedAs, caller_parts, IsOpenFloor, IsReadyForEnds}
pub use Rattle.game_run.specs.ReservedMemory.{IsReadyForArrivals, IsReserved}
pub use Rattle.game_run.specs.Prelude.{Answers, AreMadeBy, BeginsWithLine, Cause, ClockTurn, ClosedGame, Desk, Dialect, EndsBy, GameFile, GaveBytes, HasCause, HasLineCause, IsAtEnd, IsBorneOut, IsNewDesk, IsSameDesk, IsServed, IsTranscript, LineGot, Lines, LinkState, LinksState, Lost, MakesCalls, NoReadFails, NoWriteFails, ReadsNothing, Rose, Seated, Seats, SendsAll, SendsNothing, Session, Syntax, Taken, TakesSome, Turn, Verdict, WaitsForAll, WrongWord, agents, all_answers, all_goods, boards_of, boards_shown, cash_made, clock_calls, clock_entries, clock_posts, count_of, desk_caller, desk_entries, desk_ids, ended_line, floor_ids, goes_on, greeting_of, has_end, head_of, held_of, known_then, last_of, link_of, link_place, part, pieces_of, schedule, seat_verdict, seats_after, setup_of, then_known, verdict_of, welcome_text, word_verdict}
