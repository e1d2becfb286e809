-- What happened to the links of a game that was played, and of one that was not, in the form that `run_game` promises and `vouch` checks.
-- For a game that was played read `IsSeatedLink` and `IsPlayedGame` in `PlayedLinks` instead: `played_game` and `played_over`
-- (proofs/SameLinks) prove the two equivalent.
use Rattle.std.specs.Prelude.{◌≡◌, ℕ, List, [], ◌∷◌, Some, Contains, length, take, slice_get}
use Rattle.game_run.specs.Prelude.{LINK_BYTES, all_answers, GaveBytes, SendsNothing, LinkState, LinksState, known_then, then_known, LineGot, Cause, Verdict, Seated, Lost, Seats, verdict_of, IsServed, IsTranscript, Turn, welcome_text}
use Rattle.tac_io.specs.declared.line_got.LineGot.TheVariants as gots
use Rattle.game_run.specs.Admission.{HasFirstLine, IsLost, IsSentOrCut, refusal_line, seats_given}
use Rattle.game_run.specs.Hosted.{HostedGame}
use Rattle.game_run.specs.PlayedGame.{PlayedGame}

-- A link was seated by its first line, and then served as the agent until its session ended. `bytes` are all that it gave. Its turns are
-- what its later lines request, and are the agent's part of the histories. No read failed but the last one, if the session ended for a read
-- fault, and likewise for writes: so none failed before the first line's end was taken.
pub record IsSeated (hosted : HostedGame) (played : PlayedGame) (seats : Seats) (agent : ℕ) (before after : LinkState) : Type 0 where
  pub cause : Cause
  pub ended : Contains played.ends (agent, cause)
  pub bytes : List ℕ
  pub gave : GaveBytes bytes before after
  pub line : List ℕ
  pub answers : List (LineGot × List ℕ)
  pub first : all_answers [] (LINK_BYTES) bytes ≡ (gots.Line, line) ∷ answers
  pub seat : verdict_of seats line ≡ Seated agent
  pub turns : List Turn
  pub rest : List (LineGot × List ℕ)
  pub served : IsServed hosted.dialect answers (record { welcome = welcome_text hosted.game agent; turns = turns; rest = rest; before = before; after = after }) cause
  pub transcript : IsTranscript agent played.closed turns

-- a link that has a seat in a game that was not played was sent nothing
abbrev pub IsLeftUnplayed : Seats → ℕ → LinkState → LinkState → Type 0
IsLeftUnplayed seats agent before after = HasFirstLine seats (Seated agent) before after × SendsNothing before after

-- What happened to a link fits its verdict: it got a seat, and `Sits` holds of it; it was lost; or it was refused for its first line.
abbrev pub CameTo : (Seats → ℕ → LinkState → LinkState → Type 0) → Seats → Verdict → LinkState → LinkState → Type 0
CameTo Sits seats (Seated agent) before after = Sits seats agent before after
CameTo Sits seats Lost before after = IsLost before after
CameTo Sits seats verdict before after = HasFirstLine seats verdict before after × IsSentOrCut (refusal_line verdict) before after

module _ {L : Type 0} (state : L → LinkState) where
  -- The server opened the port, and took the first of the links that came, in order. What happened to each fits its verdict: to link
  -- n, counted from 0, with the seats that the first n verdicts gave.
  pub record TakesLinks (hosted : HostedGame) (Sits : Seats → ℕ → LinkState → LinkState → Type 0) (verdicts : List Verdict) (links links' : LinksState L) (ended : List L) : Type 0 where
    pub given : List L
    pub from : links.pending ≡ then_known given links'.pending
    pub came : length given ≡ length verdicts
    pub left : length ended ≡ length verdicts
    pub each : (n : ℕ) (before : L) (verdict : Verdict) (after : L) → slice_get given n ≡ Some before → slice_get verdicts n ≡ Some verdict
        → slice_get ended n ≡ Some after → CameTo Sits (seats_given hosted.game (take n verdicts)) verdict (state before) (state after)
    pub ports : links'.ports ≡ known_then links.ports (hosted.port ∷ [])
