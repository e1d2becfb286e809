-- One turn of a session: a line is read, answered, and its reply is sent.
use Rattle.std.specs.Prelude.{◌≡◌, ◌≢◌, ℕ, ◌+◌, ◌≤◌, ◌∷◌, [], ◌++◌, Result, Ok, Err, Option, Some, None}
use Rattle.agent_gate.specs.Prelude.{LINK_BYTES, LinkPlace, Answers, LastReadFails, LastWriteFails, NoReadFails, NoWriteFails, link_place, LinkState, known_then, TakesSome, LineGot, Said, Bye, Cause, Desk}
use Rattle.tac_io.specs.declared.line_got.LineGot.TheVariants as gots
use Rattle.tac_io.specs.declared.lines.Lines.{Lines}
use Rattle.line_protocol.specs.declared.admission.Cause.TheVariants as causes
use Rattle.agent_gate.specs.Dialects.{Dialect}
use Rattle.agent_gate.specs.Items.{IsItem}
use Rattle.agent_gate.specs.Answering.{TakesTurn}

-- why a session ends if no line comes
abbrev pub cause_without_line : LineGot → Option Cause
cause_without_line gots.Line = None
cause_without_line gots.TooLong = None
cause_without_line gots.End = Some causes.End
cause_without_line gots.Failed = Some causes.ReadFault
cause_without_line gots.Budget = Some causes.Budget

-- where a session stands: how far its link was read, and the agent's desk
pub record SessionState : Type 0 where
  pub place : LinkPlace
  pub desk : Desk

abbrev pub session_state : {L : Type 0} → (L → LinkState) → Lines L → Desk → SessionState
session_state state lines desk = record { place = link_place state lines; desk = desk }

-- the line that was read was answered so
abbrev pub Says : Dialect → LineGot → SessionState → SessionState → Said → Type 0
Says dialect got before after said = TakesTurn (IsItem dialect.may_answer (got, after.place.held.line)) before.desk after.desk said

-- a line was read and answered so, or no line came
abbrev pub IsNextAnswered : Dialect → LineGot → SessionState → SessionState → Result Said Cause → Type 0
IsNextAnswered dialect got before after (Ok said) = Says dialect got before after said
IsNextAnswered dialect got before after (Err cause) = (cause_without_line got ≡ Some cause) × (after.desk ≡ before.desk)

-- The next answer was taken from those of the link's lines, and a line was answered.
pub record TakesNext (dialect : Dialect) (before after : SessionState) (result : Result Said Cause) : Type 0 where
  pub got : LineGot
  pub answer : Answers before.place after.place got
  pub within : after.place.count ≤ LINK_BYTES
  pub asked : IsNextAnswered dialect got before after result

-- The result of a turn: its reply was sent whole, and it was `bye` if the agent left; or it was not sent whole; or no line came.
abbrev pub IsTurned : {T : Type 0} → Dialect → LineGot → SessionState → SessionState → Result T Cause → Type 0
IsTurned dialect got before after (Ok _) =
    (said : Said) × Says dialect got before after said × (said ≢ Bye) × (after.place.link.sent ≡ known_then before.place.link.sent (dialect.text said ++ 10 ∷ []))
IsTurned dialect got before after (Err causes.Quit) =
    Says dialect got before after Bye × (after.place.link.sent ≡ known_then before.place.link.sent (dialect.text Bye ++ 10 ∷ []))
IsTurned dialect got before after (Err causes.WriteFault) =
    (said : Said) × Says dialect got before after said × TakesSome before.place.link.sent after.place.link.sent (dialect.text said ++ 10 ∷ [])
IsTurned dialect got before after (Err cause) = (cause_without_line got ≡ Some cause) × (after.desk ≡ before.desk) × (after.place.link.sent ≡ before.place.link.sent)

-- A turn was taken, from the next answer of the link's lines to the sending of the reply.
pub record HasTurn {T : Type 0} (dialect : Dialect) (before after : SessionState) (result : Result T Cause) : Type 0 where
  pub got : LineGot
  pub answer : Answers before.place after.place got
  pub within : after.place.count ≤ LINK_BYTES
  pub turned : IsTurned dialect got before after result

-- A read failed exactly if that is the cause, and nothing was taken after that; and likewise for a write, after which nothing was sent.
abbrev pub HasSessionCause : LinkState → LinkState → Cause → Type 0
HasSessionCause before after causes.ReadFault = LastReadFails before after × NoWriteFails before after
HasSessionCause before after causes.WriteFault = NoReadFails before after × LastWriteFails before after
HasSessionCause before after cause = NoReadFails before after × NoWriteFails before after

-- a read or a write fails in a turn only if the turn ends the session for that fault
abbrev pub HasTurnCause : {T : Type 0} → LinkState → LinkState → Result T Cause → Type 0
HasTurnCause link link' (Ok _) = NoReadFails link link' × NoWriteFails link link'
HasTurnCause link link' (Err cause) = HasSessionCause link link' cause

-- how many replies were sent whole if a session ends so in the turn after this many
abbrev pub count_whole : ℕ → Cause → ℕ
count_whole before causes.Quit = before + 1
count_whole before causes.End = before
count_whole before causes.ReadFault = before
count_whole before causes.WriteFault = before
count_whole before causes.Budget = before
