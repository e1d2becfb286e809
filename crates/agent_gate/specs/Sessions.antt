-- What a session leaves of a link and of a desk.
use Rattle.std.specs.Prelude.{◌≡◌, ℕ, ◌-◌, ◌<◌, List, ◌++◌, length, map}
use Rattle.agent_gate.specs.Prelude.{GOODS, GameFile, answers_left, GaveBytes, LinkState, LineGot, Cause, Desk, desk_caller, desk_entries, desk_cash, boards_at, IsSameDesk}
use Rattle.auction_core.specs.ClosedGame.{all_goods}
use Rattle.line_protocol.specs.declared.admission.Cause.TheVariants.{WriteFault}
use Rattle.agent_gate.specs.Dialects.{Dialect}
use Rattle.agent_gate.specs.Turns.{Turn, made_at, cash_made, boards_shown}
use Rattle.agent_gate.specs.Welcome.{welcome_text}
use Rattle.agent_gate.specs.Served.{IsServed}
use Rattle.agent_gate.specs.Turning.{SessionState}
use Rattle.agent_gate.specs.declared.session.SessionEnd.{SessionEnd}

-- the desk's entries are those of the turns, and its boards are the ones that it had and those of the turns
pub record AreMadeBy (turns : List Turn) (before after : Desk) : Type 0 where
  pub entries : desk_entries after ≡ map (λ good. made_at good turns) all_goods
  pub cash : desk_cash after ≡ cash_made (desk_caller before) turns
  pub boards : (good : ℕ) → good < GOODS → boards_at after good ≡ boards_at before good ++ boards_shown good turns
  pub same : IsSameDesk before after

-- how many lines of these turns were answered by a line that was sent whole, if the session ended so
abbrev pub lines_of : Cause → List Turn → ℕ
lines_of WriteFault turns = length turns - 1
lines_of cause turns = length turns

-- what a session left: the link, the desk, how many lines were answered so, and why it ended
pub record EndedSession : Type 0 where
  pub link : LinkState
  pub desk : Desk
  pub lines : ℕ
  pub cause : Cause

abbrev pub ended_session : {L : Type 0} → (L → LinkState) → SessionEnd L → EndedSession
ended_session state end = record { link = state end.link; desk = end.desk; lines = end.lines; cause = end.cause }

-- A session, from where it stood before it. `more` are the bytes that were taken in it.
pub record IsSession (dialect : Dialect) (game : GameFile) (before : SessionState) (after : EndedSession) : Type 0 where
  pub more : List ℕ
  pub gave : GaveBytes more before.place.link after.link
  pub turns : List Turn
  pub rest : List (LineGot × List ℕ)
  pub served : IsServed dialect (answers_left before.place.held more before.place.count)
      (record { welcome = welcome_text game (desk_caller before.desk); turns = turns; rest = rest; before = before.place.link; after = after.link }) after.cause
  pub counted : after.lines ≡ lines_of after.cause turns
  pub made : AreMadeBy turns before.desk after.desk
