-- The names of crates below that this crate cites, passed on from one place.
pub use Rattle.tac_base.specs.declared.calls.Board.{Board}
pub use Rattle.tac_base.specs.declared.calls.Call.{Call}
pub use Rattle.tac_base.specs.declared.limits.TheConstants.{AGENT_CALLS, CASH_READINGS, GOODS, LINK_BYTES, SESSION_LINES}
pub use Rattle.text_forms.specs.Lines.{text_of}
pub use Rattle.line_protocol.specs.declared.admission.Cause.{Cause}
pub use Rattle.line_protocol.specs.declared.asking.Request.{Request}
pub use Rattle.line_protocol.specs.declared.asking.RequestFault.{RequestFault}
pub use Rattle.line_protocol.specs.declared.saying.Said.{Said}
pub use Rattle.line_protocol.specs.declared.saying.Said.TheVariants.{Bye}
pub use Rattle.game_text.specs.Games.{GameFile}
pub use Rattle.game_text.specs.OneAgent.{lines_of_agent}
pub use Rattle.auction_rules.specs.History.{Entry}
pub use Rattle.trade_ledger.specs.Posts.{post_for}
pub use Rattle.trade_ledger.specs.BookPosts.{is_post}
pub use Rattle.trade_ledger.specs.declared.cash_calls.CashEntry.{CashEntry}
pub use Rattle.floor.specs.Answers.{IsCashOutcome, IsOutcome, IsSameDesk, IsSeen}
pub use Rattle.floor.specs.Desks.{boards_at, boards_of, desk_caller, desk_cash, desk_entries, desk_ids, entries_at, seen_at, seen_of}
pub use Rattle.floor.specs.Floors.{floor_ids}
pub use Rattle.floor.specs.Keeping.{count_readings}
pub use Rattle.floor.specs.declared.desk.Desk.{Desk}
pub use Rattle.floor.specs.declared.outcomes.CashOutcome.{CashOutcome}
pub use Rattle.floor.specs.declared.outcomes.Outcome.{Outcome}
pub use Rattle.tac_io.specs.AnswersInTurn.{answers_left}
pub use Rattle.tac_io.specs.HeldBytes.{Held, LinkPlace}
pub use Rattle.tac_io.specs.Known.{IsAtEnd, TakesSome, known_then, then_known}
pub use Rattle.tac_io.specs.LineAnswers.{Answers, IsNext, goes_on}
pub use Rattle.tac_io.specs.Lines.{KeepsPlace, last_of, link_of, link_place}
pub use Rattle.tac_io.specs.LinkCalls.{FailsByWrite, GaveBytes, LastReadFails, LastWriteFails, NoReadFails, NoWriteFails, OnlySends, ReadsNothing}
pub use Rattle.tac_io.specs.States.{LinkState}
pub use Rattle.tac_io.specs.declared.line_got.LineGot.{LineGot}
