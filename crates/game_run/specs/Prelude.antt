-- The names of crates below that this crate cites, passed on from one place.
pub use Rattle.tac_base.specs.Goods.{agents, clock}
pub use Rattle.tac_base.specs.declared.limits.TheConstants.{AGENTS, CALLERS, GOODS, LINE_BYTES, LINKS, LINK_BYTES}
pub use Rattle.line_protocol.specs.Heads.{Head, Play, Serve, head_of}
pub use Rattle.line_protocol.specs.declared.admission.Cause.{Cause}
pub use Rattle.line_protocol.specs.declared.admission.Verdict.{Verdict}
pub use Rattle.line_protocol.specs.declared.admission.Verdict.TheVariants.{Lost, Seated, Syntax, Taken, WrongWord}
pub use Rattle.game_text.specs.Games.{GameFile}
pub use Rattle.game_text.specs.Schedule.{clock_calls, schedule}
pub use Rattle.turn_lock.specs.Part.{part}
pub use Rattle.auction_core.specs.ClosedGame.{ClosedGame, all_goods}
pub use Rattle.auction_core.specs.Setups.{setup_of}
pub use Rattle.floor.specs.Answers.{IsSameDesk}
pub use Rattle.floor.specs.Closing.{IsBorneOut}
pub use Rattle.floor.specs.Desks.{IsNewDesk, boards_of, desk_caller, desk_cash, desk_entries, desk_ids}
pub use Rattle.floor.specs.Floors.{AreDesksOf, floor_ids, starts_of}
pub use Rattle.floor.specs.declared.desk.Desk.{Desk}
pub use Rattle.tac_io.specs.AllAnswers.{all_answers, ended_line}
pub use Rattle.tac_io.specs.Counts.{HasCause, Rose}
pub use Rattle.tac_io.specs.Known.{IsAtEnd, TakesSome, known_then, then_known}
pub use Rattle.tac_io.specs.LineAnswers.{Answers, HasLineCause, goes_on}
pub use Rattle.tac_io.specs.LineText.{BeginsWithLine, has_end}
pub use Rattle.tac_io.specs.Lines.{count_of, held_of, last_of, link_of, link_place}
pub use Rattle.tac_io.specs.LinkCalls.{GaveBytes, NoReadFails, NoWriteFails, ReadsNothing, SendsNothing}
pub use Rattle.tac_io.specs.States.{LinkState, LinksState}
pub use Rattle.tac_io.specs.declared.line_got.LineGot.{LineGot}
pub use Rattle.tac_io.specs.declared.lines.Lines.{Lines}
pub use Rattle.clock_events.specs.ClockTurns.{ClockTurn, clock_entries, clock_posts}
pub use Rattle.clock_events.specs.Clocking.{WaitsForAll}
pub use Rattle.clock_events.specs.MadeCalls.{MakesCalls}
pub use Rattle.agent_gate.specs.Dialects.{Dialect}
pub use Rattle.agent_gate.specs.Gates.{Seats, greeting_of, seat_verdict, seats_after, verdict_of, word_verdict}
pub use Rattle.agent_gate.specs.Served.{EndsBy, IsServed, SendsAll, Session, pieces_of}
pub use Rattle.agent_gate.specs.Sessions.{AreMadeBy, IsSession}
pub use Rattle.agent_gate.specs.Transcript.{IsTranscript}
pub use Rattle.agent_gate.specs.Turns.{Turn, boards_shown, cash_made}
pub use Rattle.agent_gate.specs.Welcome.{welcome_text}
