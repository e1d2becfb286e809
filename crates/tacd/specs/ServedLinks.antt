-- The links of a served game, and what its log says of them.
use Rattle.std.specs.Prelude.{◌≡◌, ℕ, ◌≤◌, ◌⊎◌, List, Ok, Some, length, slice_get}
use Rattle.tacd.specs.Prelude.{TEXT_BYTES, FilesState, LinkState, LinksState, TookWhole, GameFile, Scored, Verdict, Seated, head_of, LoggedGame, Dialect, GameEnd, HostedGame, IsGameEnd, HasBytes, HasWelcome, IsLinkOfLog, IsVouched, Log, Memory, read_as, Outcome, Done, Refused, Outside, Runs}
use Rattle.link_audit.specs.declared.vouching.Vouching.{Vouching}
use Rattle.link_audit.specs.Vouchings.{IsYes}
use Rattle.tac_commands.specs.Allowed.{link_steps}
use Rattle.tac_commands.specs.Services.{Service, dialect_in}
use Rattle.tac_commands.specs.SoundTexts.{log_of_game}
use Rattle.tac_commands.specs.VouchingTexts.{vouching_text}
use Rattle.tacd.specs.declared.answer.Answer.{Answer}
use Rattle.tacd.specs.declared.answer.Played.{Played}
use Rattle.tacd.specs.Service.{IsGameFile, IsLogOf}
use Rattle.tacd.specs.Finishing.{hosted_by}

-- ---- the links

-- the links of a game in the order in which they came: as they came, their verdicts, and as they were left
pub record GameLinks (L : Type 0) : Type 0 where
  pub given : List L
  pub verdicts : List Verdict
  pub ended : List L

module _ {L : Type 0} (state : L → LinkState) where
  -- one of the links has the agent's seat, and its bytes are known
  pub record IsSeatedWith (links : GameLinks L) (agent : ℕ) (asked said : List ℕ) : Type 0 where
    pub place : ℕ
    pub listed : slice_get links.verdicts place ≡ Some (Seated agent)
    pub before : L
    pub came : slice_get links.given place ≡ Some before
    pub after : L
    pub left : slice_get links.ended place ≡ Some after
    pub bytes : HasBytes (state before) (state after) asked said

  -- the links of a game that was played
  abbrev pub links_of : {hosted : HostedGame} {links links' : LinksState L} {end : GameEnd L} → IsGameEnd state hosted links links' end → GameLinks L
  links_of {hosted} {links} {links'} {end} is = record { given = is.played.taken.given; verdicts = is.verdicts; ended = end.links.items }

  -- each link of that game that has a seat, and whose bytes are known, is a link of the game's log, with any sheet
  abbrev pub AreLinksOfLog : {hosted : HostedGame} {links links' : LinksState L} {end : GameEnd L} → IsGameEnd state hosted links links' end → Type 0
  AreLinksOfLog {hosted} {links} {links'} {end} is = (sheet : List Scored) (agent : ℕ) (asked said : List ℕ) →
      IsSeatedWith (links_of is) agent asked said → IsLinkOfLog hosted (log_of_game (head_of end.head) end.closed sheet) agent asked said

-- ---- what the log says of them

-- a judgement by a link is a yes for the agent, or memory was refused
abbrev pub SaysYes : ℕ → Outcome → Type 0
SaysYes agent outcome = ((vouching : Vouching) × IsYes agent vouching × (outcome ≡ Done (vouching_text vouching))) ⊎ (outcome ≡ Refused Memory)

-- A log is vouched for by a link's bytes, and a judgement by these bytes is a yes.
pub record IsVouchedBy (game : GameFile) (dialect : Dialect) (log : LoggedGame) (agent : ℕ) (asked said : List ℕ) : Type 0 where
  pub vouched : IsVouched game dialect log agent asked said
  pub judged : (files files' : FilesState) (outcome : Outcome) → Runs (link_steps game dialect log asked said) files files' outcome → SaysYes agent outcome

-- the code of a service that wrote its log whole: 0, or 6 if ticks lapsed
abbrev pub HasLog : ℕ → Type 0
HasLog code = (code ≡ 0) ⊎ (code ≡ 6)

-- the log of a game that was played, with this sheet
abbrev pub played_log : Played → List Scored → LoggedGame
played_log played sheet = log_of_game (head_of played.head) played.closed sheet

module _ {L : Type 0} (state : L → LinkState) where
  -- A service wrote the log of a game that was played. If its code is 0, no tick lapsed. If the text is no longer than a log may be, it is read as
  -- that log. The log is vouched for by the bytes of each link with a seat, where they are known and its welcome was sent whole.
  pub record IsVouchedService (service : Service) (before after : Outside L) (answer : Answer L) : Type 0 where
    pub game : GameFile
    pub file : IsGameFile before.files service.game game
    pub text : List ℕ
    pub written : TookWhole before.out after.out text
    pub played : Played
    pub kept : answer.played ≡ Some played
    pub log : IsLogOf game played text
    pub read : length text ≤ TEXT_BYTES → read_as Log text ≡ Ok (played_log played log.sheet)
    pub end : IsGameEnd state (hosted_by service game) before.links after.links (record { closed = played.closed; head = played.head; links = answer.ended })
    pub in_time : answer.code ≡ 0 → end.missed ≡ 0
    pub vouched : (agent : ℕ) (asked said : List ℕ) → IsSeatedWith state (links_of state end) agent asked said → HasWelcome game agent said
        → IsVouchedBy game (dialect_in service.form) (played_log played log.sheet) agent asked said
