-- When a log is right about one link, by the bytes that it gave and those that it was sent. The two relations are our own.
use Rattle.std.specs.Prelude.{◌≡◌, ◌≢◌, ℕ, ◌-◌, ◌==◌, ◌<◌, ◌≤◌, ◌⊎◌, if◌then◌else◌, List, [], ◌∷◌, ◌++◌, Contains, Result, Ok, Err, Some, true, false, length, map, slice_get, take, count_by}
use Rattle.std.specs.List.{list_any}
use Rattle.link_audit.specs.Prelude.{LINK_BYTES, SESSION_LINES, GoesOn, GameFile, all_answers, LinkState, LineGot, Cause, Verdict, Seated, Request, RequestFault, Said, IsOneLine, ClosedGame, LoggedGame, auctions_in, gives_seat, Dialect, verdict_of, AreItems, Asks, IsItem, IsTranscript, Turn, AreLawful, has_left, item_of, said_of, welcome_lines, welcome_text, free_seats, seats_given, HostedGame, hosted_game, IsSeated, PlayedGame}
use Rattle.tac_io.specs.declared.line_got.LineGot.TheVariants as gots
use Rattle.line_protocol.specs.declared.admission.Cause.TheVariants as causes
use Rattle.line_protocol.specs.declared.asking.Request.TheVariants.{Quit}
use Rattle.line_protocol.specs.declared.asking.RequestFault.TheVariants.{Memory}
use Rattle.line_protocol.specs.Heads.{Head, Play, Serve}

-- ---- what a log says of a game over links

-- the verdicts on the links, in order of arrival; a game from a script has none
abbrev pub logged_verdicts : Head → List Verdict
logged_verdicts Play = []
logged_verdicts (Serve verdicts ends missed) = verdicts

-- the cause of the end of each seated agent's session
abbrev pub logged_ends : Head → List (ℕ × Cause)
logged_ends Play = []
logged_ends (Serve verdicts ends missed) = ends

-- the auctions and the cash history
abbrev pub closed_in : GameFile → LoggedGame → ClosedGame
closed_in game log = record { auctions = auctions_in game log; cash = log.cash }

-- the game that was played
abbrev pub played_in : GameFile → LoggedGame → PlayedGame
played_in game log = record { verdicts = logged_verdicts log.head; ends = logged_ends log.head; closed = closed_in game log }

-- ---- the server's end of a link

-- a link that has these bytes to give: none of them was taken, it was sent nothing, and none of its calls failed
abbrev pub fresh_link : List ℕ → LinkState
fresh_link bytes = record { taken = Some []; left = Some bytes; sent = Some []; reads = 0; writes = 0; read_failures = Some []; write_failures = Some [] }

-- A link whose bytes are known, before and after: it had `asked` to give, and was sent `said` since.
pub record HasBytes (before after : LinkState) (asked said : List ℕ) : Type 0 where
  pub had : before.left ≡ Some asked
  pub sent_at_first : List ℕ
  pub sent_before : before.sent ≡ Some sent_at_first
  pub sent_after : after.sent ≡ Some (sent_at_first ++ said)

-- The log's head gives a link the agent's seat, and by the log a link that had the bytes `asked` to give was sent exactly `said`, was served
-- as the agent until its session ended for the cause that the head has, and its turns are the agent's part of the log.
pub record IsLinkOfLog (hosted : HostedGame) (log : LoggedGame) (agent : ℕ) (asked said : List ℕ) : Type 0 where
  pub place : ℕ
  pub listed : slice_get (logged_verdicts log.head) place ≡ Some (Seated agent)
  pub after : LinkState
  pub sent : after.sent ≡ Some said
  pub seated : IsSeated hosted (played_in hosted.game log) (seats_given hosted.game (take place (logged_verdicts log.head))) agent (fresh_link asked) after

-- ---- the far end of a link

-- the lines of a text before its last line end, where `line` comes before these bytes; what follows that end is left out
abbrev pub whole_lines_after : List ℕ → List ℕ → List (List ℕ)
whole_lines_after line [] = []
whole_lines_after line (byte ∷ bytes) = if byte == 10 then line ∷ whole_lines_after [] bytes else whole_lines_after (line ++ byte ∷ []) bytes

abbrev pub whole_lines : List ℕ → List (List ℕ)
whole_lines bytes = whole_lines_after [] bytes

-- each reply is one line
abbrev pub HasLineReplies : Dialect → Type 0
HasLineReplies dialect = (reply : Said) → IsOneLine (dialect.text reply)

-- what a line may be read as, other than as a failed memory allocation
abbrev pub MayAsk : (List ℕ → Result Request RequestFault → Type 0) → List ℕ → Result Request RequestFault → Type 0
MayAsk may_answer line answer = may_answer line answer × (answer ≢ Err Memory)

-- what the link was sent begins with the agent's whole welcome
abbrev pub HasWelcome : GameFile → ℕ → List ℕ → Type 0
HasWelcome game agent said = GoesOn (welcome_text game agent) said

-- The lines of a link account for the agent's whole part of a sound log, as the link's far end saw it, which tried to send `asked` and got
-- `said`. The first line asks for the agent's seat, which the log's head gives to a link. The first of the lines after it have turns, which
-- are lawful one after another, number at most 65,536, and together are the agent's whole part of the log. The replies to the first of
-- these turns are all the whole lines that arrived after the welcome; the replies to the others did not arrive whole.
pub record AccountsFor (game : GameFile) (dialect : Dialect) (log : LoggedGame) (agent : ℕ) (asked said : List ℕ) : Type 0 where
  pub listed : list_any (gives_seat agent) (logged_verdicts log.head) ≡ true
  pub line : List ℕ
  pub answered : List (LineGot × List ℕ)
  pub unanswered : List (LineGot × List ℕ)
  pub later : List (LineGot × List ℕ)
  pub lines : all_answers [] LINK_BYTES asked ≡ (gots.Line, line) ∷ answered ++ (unanswered ++ later)
  pub seat : verdict_of (free_seats game) line ≡ Seated agent
  pub heard : List Turn
  pub unheard : List Turn
  pub heard_items : AreItems dialect.may_answer answered (map item_of heard)
  pub unheard_items : AreItems (MayAsk dialect.may_answer) unanswered (map item_of unheard)
  pub few : length (heard ++ unheard) ≤ SESSION_LINES
  pub lawful : AreLawful (heard ++ unheard)
  pub replies : whole_lines said ≡ welcome_lines game agent ++ map (λ turn. dialect.text (said_of turn)) heard
  pub transcript : IsTranscript agent (closed_in game log) (heard ++ unheard)

-- no line is left: the link's bytes are at their end, or no more of them are taken
abbrev pub HasNoLine : List (LineGot × List ℕ) → Type 0
HasNoLine lines = (lines ≡ (gots.End, []) ∷ []) ⊎ (lines ≡ (gots.Budget, []) ∷ [])

-- nothing of a link is left over: each whole line, up to the one by which the agent left, has its reply, and the last byte that arrived is a
-- line end
pub record LeavesNothing {game : GameFile} {dialect : Dialect} {log : LoggedGame} {agent : ℕ} {asked said : List ℕ} (account : AccountsFor game dialect log agent asked said) : Type 0 where
  pub all_heard : account.unheard ≡ []
  pub last : (has_left account.heard ≡ true) ⊎ HasNoLine account.later
  pub ended : slice_get said (length said - 1) ≡ Some 10

-- the bytes have the greeting and at least 65,536 lines more, or are as many as a server takes
abbrev pub MayUseUp : List ℕ → Type 0
MayUseUp asked = (SESSION_LINES < count_by (λ byte. byte == 10) asked) ⊎ (LINK_BYTES ≤ length asked)

-- one of these lines may be read as `quit`
abbrev pub AsksToLeave : Dialect → List (LineGot × List ℕ) → Type 0
AsksToLeave dialect [] = ⊥
AsksToLeave dialect (line ∷ lines) = IsItem (MayAsk dialect.may_answer) line (Asks (Ok Quit)) ⊎ AsksToLeave dialect lines

-- A cause that the record of a link allows. If a `bye` arrived, the agent quit. It quit only if a `bye` arrived, or if a line of the session
-- whose reply did not arrive may be read as `quit`. After 65,536 replies the session is used up. If a write failed, a line has no reply. The
-- session used up its lines or its bytes only if there were as many.
pub record AllowsCause {game : GameFile} {dialect : Dialect} {log : LoggedGame} {agent : ℕ} {asked said : List ℕ} (account : AccountsFor game dialect log agent asked said) (cause : Cause) : Type 0 where
  pub left : has_left account.heard ≡ true → cause ≡ causes.Quit
  pub quit : cause ≡ causes.Quit → (has_left account.heard ≡ true) ⊎ AsksToLeave dialect (take (SESSION_LINES - length account.heard) (account.unanswered ++ account.later))
  pub full : has_left account.heard ≡ false → length account.heard ≡ SESSION_LINES → cause ≡ causes.Budget
  pub cut : cause ≡ causes.WriteFault → HasNoLine (account.unanswered ++ account.later) → ⊥
  pub used_up : cause ≡ causes.Budget → MayUseUp asked

-- A sound log is right about a link: its lines account for the agent's whole part of the log, and its record allows the cause that the log's
-- head has for the end of the agent's session.
pub record IsVouched (game : GameFile) (dialect : Dialect) (log : LoggedGame) (agent : ℕ) (asked said : List ℕ) : Type 0 where
  pub account : AccountsFor game dialect log agent asked said
  pub cause : Cause
  pub ended : Contains (logged_ends log.head) (agent, cause)
  pub allowed : AllowsCause account cause

-- in this form of lines, if each reply is one line, every log is right about each of its links that was sent its whole welcome
abbrev pub VouchesForLinks : Dialect → Type 0
VouchesForLinks dialect = (game : GameFile) (port : ℕ) (log : LoggedGame) (agent : ℕ) (asked said : List ℕ) → HasLineReplies dialect
    → IsLinkOfLog (hosted_game game dialect port) log agent asked said → HasWelcome game agent said → IsVouched game dialect log agent asked said
