-- What happened to the links of a game that was played: to a link with a seat, and to all that were taken, in order.
use Rattle.std.specs.Prelude.{⊤, ◌≡◌, ℕ, ◌≤◌, List, [], ◌∷◌, ◌++◌, Contains, length, map}
use Rattle.line_protocol.specs.declared.admission.Cause.{Cause}
use Rattle.line_protocol.specs.declared.admission.Verdict.{Verdict}
use Rattle.line_protocol.specs.declared.admission.Verdict.TheVariants.{Seated, Lost}
use Rattle.tac_io.specs.AllAnswers.{all_answers}
use Rattle.tac_io.specs.LinkCalls.{GaveBytes}
use Rattle.tac_io.specs.States.{LinkState, LinksState}
use Rattle.tac_io.specs.Known.{known_then, then_known}
use Rattle.tac_io.specs.declared.line_got.LineGot.{LineGot}
use Rattle.agent_gate.specs.Gates.{Seats, verdict_of, seats_after}
use Rattle.agent_gate.specs.Transcript.{IsTranscript}
use Rattle.agent_gate.specs.Welcome.{welcome_text}
use Rattle.tac_base.specs.declared.limits.TheConstants.{SESSION_LINES, LINK_BYTES}
use Rattle.tac_io.specs.declared.line_got.LineGot.TheVariants as gots
use Rattle.agent_gate.specs.Items.{AreItems}
use Rattle.agent_gate.specs.Turns.{item_of, AreLawful, Turn}
use Rattle.agent_gate.specs.SessionEnds.{StopsBy, ReadsBy, SendsBy, reply_line}
use Rattle.game_run.specs.Hosted.{HostedGame}
use Rattle.game_run.specs.PlayedGame.{PlayedGame, IsPlayedBy}
use Rattle.game_run.specs.Admission.{AreAllTaken, free_seats, HasFirstLine, IsLost, IsSentOrCut, refusal_line}

-- A link was seated by its first line, and then served as the agent until its session ended. The head of the log has the cause of the
-- end.
pub record IsSeatedLink (hosted : HostedGame) (played : PlayedGame) (seats : Seats) (agent : ℕ) (before after : LinkState) : Type 0 where
  pub cause : Cause
  pub ended : Contains played.ends (agent, cause)
  -- All bytes that it gave are cut into its first line, which has the seat's word, a line for each turn, and the rest.
  pub bytes : List ℕ
  pub gave : GaveBytes bytes before after
  pub first : List ℕ
  pub lines : List (LineGot × List ℕ)
  pub rest : List (LineGot × List ℕ)
  pub read : all_answers [] (LINK_BYTES) bytes ≡ (gots.Line, first) ∷ (lines ++ rest)
  pub seat : verdict_of seats first ≡ Seated agent
  -- The turns: each is one that its line asks for, they are lawful, and they are the agent's part of the histories.
  pub turns : List Turn
  pub items : AreItems hosted.dialect.may_answer lines (map item_of turns)
  pub few : length turns ≤ SESSION_LINES
  pub lawful : AreLawful turns
  pub transcript : IsTranscript agent played.closed turns
  -- Why the session stopped, whether a read failed, and what was sent of the welcome and of a line for each turn.
  pub stopped : StopsBy cause turns rest after
  pub reads : ReadsBy cause before after
  pub sent : SendsBy cause (welcome_text hosted.game agent ∷ map (reply_line hosted.dialect.text) turns) before after

-- What happened to a link fits its verdict: it was seated and served, it was lost, or it was refused for its first line.
abbrev pub FitsVerdict : HostedGame → PlayedGame → Seats → Verdict → LinkState → LinkState → Type 0
FitsVerdict hosted played seats (Seated agent) before after = IsSeatedLink hosted played seats agent before after
FitsVerdict hosted played seats Lost before after = IsLost before after
FitsVerdict hosted played seats verdict before after = HasFirstLine seats verdict before after × IsSentOrCut (refusal_line verdict) before after

module _ {L : Type 0} (state : L → LinkState) where
  -- a link that was taken: as it was before the game, its verdict, and as it was after
  pub record TakenLink : Type 0 where
    pub before : L
    pub verdict : Verdict
    pub after : L

  -- What happened to each link fits its verdict, with the seats as they were after the verdicts before it.
  abbrev pub AllFitVerdicts : HostedGame → PlayedGame → Seats → List TakenLink → Type 0
  AllFitVerdicts hosted played seats [] = ⊤
  AllFitVerdicts hosted played seats (link ∷ links) = FitsVerdict hosted played seats link.verdict (state link.before) (state link.after) × AllFitVerdicts hosted played (seats_after seats link.verdict) links

  -- A game was played over all the links that could be taken.
  pub record IsPlayedGame (hosted : HostedGame) (links links' : LinksState L) (played : PlayedGame) (ended : List L) : Type 0 where
    -- The server opened the port, and took the first of the links that were still to come, in order.
    pub ports : links'.ports ≡ known_then links.ports (hosted.port ∷ [])
    pub taken : List TakenLink
    pub from : links.pending ≡ then_known (map (λ link. link.before) taken) links'.pending
    -- The log's head has the verdict on each, and `ended` is what became of each.
    pub verdicts : played.verdicts ≡ map (λ link. link.verdict) taken
    pub left : ended ≡ map (λ link. link.after) taken
    pub each : AllFitVerdicts hosted played (free_seats hosted.game) taken
    -- No other link could be taken, and what was played is a game.
    pub all : AreAllTaken played.verdicts links'.pending
    pub lawful : IsPlayedBy hosted.game played
