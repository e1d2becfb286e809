pub mod Prelude
pub mod Gates
pub mod Items
pub mod Turns
pub mod Dialects
pub mod SessionEnds
pub mod Served
pub mod Sessions
pub mod Transcript
pub mod Welcome
pub mod Answering
pub mod Turning
pub use Rattle.agent_gate.specs.Items.{AreItems, Asks, IsItem, Item, Overlong}
pub use Rattle.agent_gate.specs.Turns.{AreLawful, CallDenied, Called, CashDenied, CashRead, IsLawfulTurn, IsNotBehind, Quit, Quoted, Refused, Skipped, Turn, asked_call, boards_shown, cash_by, cash_made, entry_made, has_left, is_leaving, is_reading, item_of, made_at, said_of, shown_by, shown_length}
pub use Rattle.agent_gate.specs.Dialects.{Dialect}
pub use Rattle.agent_gate.specs.Served.{ComesTo, EndsBy, IsCutOff, IsServed, IsUsedUp, SendsAll, Session}
pub use Rattle.agent_gate.specs.SessionEnds.{reply_line}
pub use Rattle.agent_gate.specs.Sessions.{AreMadeBy, EndedSession, IsSession, ended_session, lines_of}
pub use Rattle.agent_gate.specs.Welcome.{welcome_text, MovesOn}
pub use Rattle.agent_gate.specs.Answering.{IsDueTurn, IsMade, TakesTurn, said_of_outcome, said_of_reading}
pub use Rattle.agent_gate.specs.Turning.{HasSessionCause, HasTurn, HasTurnCause, IsTurned, Says, SessionState, TakesNext, cause_without_line, count_whole, session_state}
pub use Rattle.agent_gate.specs.Prelude.{Answers, Board, Bye, Call, CashEntry, CashOutcome, Cause, Desk, Entry, FailsByWrite, GameFile, GaveBytes, Held, IsAtEnd, IsCashOutcome, IsNext, IsOutcome, IsSameDesk, IsSeen, KeepsPlace, LastWriteFails, LineGot, LinkPlace, LinkState, NoReadFails, NoWriteFails, OnlySends, Outcome, ReadsNothing, Request, RequestFault, Said, TakesSome, answers_left, boards_at, boards_of, count_readings, desk_caller, desk_cash, desk_entries, desk_ids, entries_at, floor_ids, goes_on, is_post, known_then, last_of, lines_of_agent, link_of, post_for, seen_at, seen_of, text_of, then_known}
