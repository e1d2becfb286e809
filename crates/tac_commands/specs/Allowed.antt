-- What each command does with its files and their values, and so which outcomes the words and the files allow.
use Rattle.std.specs.Prelude.{◌≡◌, ℕ, ◌<◌, ◌⊎◌, ⊤, codes, List, [], ◌∷◌, ◌++◌, length, Option, Some, None, ◌≤ℤ◌, ◌<ℤ◌, pos}
use Rattle.tac_commands.specs.Prelude.{GOODS, FilesState, GameFile, canonical_text, upgraded, AccountFile, IsSolvedText, made_game, made_script, Scored, GameLine as ScriptLine, PlayCount, hotel_out, IsSheetOf, closed_game, first_out, play_out, replies, IsSummary, LoggedGame, IsSound, Flaw, IsFirstFlaw, Dialect, Difference, Vouching, IsFirstDifference, IsJudged, IsYes, IsPrinted}
use Rattle.good_worth.specs.Worth.{IsUp, IsDown, held}
use Rattle.good_worth.specs.Worths.{Valuation, AreWorths, up_at, down_at}
use Rattle.good_worth.specs.WorthTexts.{worth_text as worth_spelling}
use Rattle.line_protocol.specs.Heads as heads
use Rattle.link_audit.specs.Links.{IsVouched}
use Rattle.tac_commands.specs.declared.file_kinds.FileKind.TheVariants.{Game, HotelScript, GameScript, Account, Log, Bytes}
use Rattle.tac_commands.specs.declared.refusals.Refusal.TheVariants.{Usage, LinkFault, Memory}
use Rattle.tac_commands.specs.Cash.{IsCashOfPosts}
use Rattle.tac_commands.specs.Commands.{BatchCommand, Hotel, Show, Upgrade, Make, Solve, Worth, Play, Step, Trial, Audit, Vouch, Table, Command, Batch, Serve}
use Rattle.tac_commands.specs.FlawTexts.{flaw_text, unsound_text}
use Rattle.tac_commands.specs.Outcomes.{Outcome, Done, Lapsed, Stopped, Refused}
use Rattle.tac_commands.specs.Runs.{AreUnasked, Runs}
use Rattle.tac_commands.specs.Services.{dialect_in}
use Rattle.tac_commands.specs.SoundTexts.{log_of_game, EndsInSoundLog}
use Rattle.tac_commands.specs.Steps.{Steps, Reads, Judges, Hears, EndsWith, file}
use Rattle.tac_commands.specs.Trials.{trial_text}
use Rattle.tac_commands.specs.VouchingTexts.{difference_text, vouching_text}

-- the due text is written, or a memory allocation failed
abbrev pub WritesDue : (List ℕ → Type 0) → Outcome → Type 0
WritesDue IsDue (Done text) = IsDue text
WritesDue IsDue (Refused Memory) = ⊤
WritesDue IsDue outcome = ⊥

-- the due text is written, or its first part alone, if a memory allocation failed for the rest
abbrev pub WritesOrStops : (List ℕ → Type 0) → (List ℕ → Type 0) → Outcome → Type 0
WritesOrStops IsDue IsFirst (Done text) = IsDue text
WritesOrStops IsDue IsFirst (Stopped text Memory) = IsFirst text
WritesOrStops IsDue IsFirst outcome = ⊥

-- the same, or a memory allocation failed before anything was written
abbrev pub WritesInParts : (List ℕ → Type 0) → (List ℕ → Type 0) → Outcome → Type 0
WritesInParts IsDue IsFirst (Refused Memory) = ⊤
WritesInParts IsDue IsFirst outcome = WritesOrStops IsDue IsFirst outcome

-- the replies and the log of a game played from the lines of a script, with some sheet of it; that log is sound, and in its ranges
abbrev pub IsPlayText : GameFile → List ScriptLine → List ℕ → Type 0
IsPlayText game lines text =
    (sheet : List Scored) × IsSheetOf game (closed_game game lines) sheet × (text ≡ play_out game lines sheet)
    × EndsInSoundLog game (log_of_game heads.Play (closed_game game lines) sheet) (replies game lines) text

-- the summary of the made game by the made script, with some sheet of it
abbrev pub IsTrial : ℕ → ℕ → List ℕ → Type 0
IsTrial seed count text =
    (played : PlayCount) × (sheet : List Scored) × IsSummary (made_game seed) (made_script seed count) played sheet × (text ≡ trial_text seed count played sheet)

-- The meaning of a good's two numbers: what one unit more adds to the best total, and what one unit less takes from it, in dollars and never
-- below 0; one unit less of a good that is not held takes nothing, and one unit more of one that the agent is short of adds nothing.
pub record AreWorthsOf (account : AccountFile) (v : Valuation) (good : ℕ) : Type 0 where
  pub up : IsUp account good (up_at v good)
  pub down : IsDown account good (down_at v good)
  pub not_held : held account good ≤ℤ pos 0 → down_at v good ≡ 0
  pub owed : held account good <ℤ pos 0 → up_at v good ≡ 0

-- The text of the worths of an account: best allocations of the account and of those with one unit more and one unit less of each good, and
-- the numbers of each good.
abbrev pub IsValued : AccountFile → List ℕ → Type 0
IsValued account text =
    (v : Valuation) × AreWorths account v × ((good : ℕ) → good < GOODS → AreWorthsOf account v good) × (text ≡ worth_spelling v)

-- what a game played from the lines of a script may write; the cash in its sheet is that of the posts
abbrev pub PlayAllows : GameFile → List ScriptLine → Outcome → Type 0
PlayAllows game lines outcome = WritesInParts (IsPlayText game lines) (λ text. text ≡ first_out game lines) outcome × IsCashOfPosts (closed_game game lines)

-- the same for a game whose replies were written line by line; an allocation may fail for its sheet, and not before
abbrev pub StepAllows : GameFile → List ScriptLine → Outcome → Type 0
StepAllows game lines outcome = WritesOrStops (IsPlayText game lines) (λ text. text ≡ first_out game lines) outcome × IsCashOfPosts (closed_game game lines)

-- the text of the first flaw of a log
pub record IsFlawText (game : GameFile) (log : LoggedGame) (text : List ℕ) : Type 0 where
  pub flaw : Flaw
  pub first : IsFirstFlaw game log flaw
  pub due : text ≡ flaw_text flaw

-- the script in the file of this name is read, and the game is played from it
abbrev pub play_steps : GameFile → List ℕ → Steps
play_steps game script = Reads (file GameScript script) (λ lines. EndsWith (PlayAllows game lines))

-- the game is played line by line, while the script in the file of this name is read
abbrev pub step_steps : GameFile → List ℕ → Steps
step_steps game script = Hears script (replies game) (StepAllows game)

-- a log is judged by its game: it is sound, or its first flaw is reported
abbrev pub audit_steps : GameFile → LoggedGame → Steps
audit_steps game log = Judges (IsSound game log) (IsFlawText game log) (EndsWith (WritesDue (λ text. text ≡ codes "sound\n")))

-- each audit of this log by this game says that it is sound, unless a memory allocation failed
abbrev pub IsSaidSound : GameFile → LoggedGame → Type 0
IsSaidSound game log = (files files' : FilesState) (outcome : Outcome) → Runs (audit_steps game log) files files' outcome → (outcome ≡ Done (codes "sound\n")) ⊎ (outcome ≡ Refused Memory)

-- the text about a link that the log is right about, as that of one of its agents
abbrev pub IsVouchedText : GameFile → Dialect → LoggedGame → List ℕ → List ℕ → List ℕ → Type 0
IsVouchedText game dialect log asked said text =
    (vouching : Vouching) × ((agent : ℕ) × IsYes agent vouching) × IsJudged game dialect log asked said vouching × (text ≡ vouching_text vouching)

-- a log is judged by the bytes that a link asked and was sent: it is right about them, or the first difference is reported
abbrev pub link_steps : GameFile → Dialect → LoggedGame → List ℕ → List ℕ → Steps
link_steps game dialect log asked said =
    Judges ((agent : ℕ) × IsVouched game dialect log agent asked said) (λ text. (difference : Difference) × IsFirstDifference game dialect log asked said difference × (text ≡ difference_text difference))
    (EndsWith (WritesDue (IsVouchedText game dialect log asked said)))

-- the two files of a link are read, and the log is judged by them
abbrev pub link_file_steps : GameFile → Dialect → LoggedGame → List ℕ → List ℕ → Steps
link_file_steps game dialect log asked_name said_name =
    Reads (file Bytes asked_name) (λ asked. Reads (file Bytes said_name) (λ said. link_steps game dialect log asked said))

-- a log is judged by its game, and by the files of a link if it is sound
abbrev pub vouch_steps : GameFile → Dialect → List ℕ → List ℕ → LoggedGame → Steps
vouch_steps game dialect asked_name said_name log = Judges (IsSound game log) (IsFlawText game log) (link_file_steps game dialect log asked_name said_name)

-- Pairs of a game and its log are read and audited in turn, after the pairs of the games already played, and then the standings of
-- all are written. The first log that is not sound is reported by the number of pairs before it.
abbrev pub table_steps : List (GameFile × LoggedGame) → List (List ℕ × List ℕ) → Steps
table_steps played [] = EndsWith (WritesDue (IsPrinted played []))
table_steps played (pair ∷ pairs) =
    Reads (file Game pair.0) (λ game. Reads (file Log pair.1) (λ log.
    Judges (IsSound game log) (λ text. text ≡ unsound_text (length played)) (table_steps (played ++ (game, log) ∷ []) pairs)))

-- What a command that needs no links does.
abbrev pub batch_steps : BatchCommand → Steps
-- the replies and trades of one hotel, run by a script
batch_steps (Hotel script) = Reads (file HotelScript script) (λ lines. EndsWith (WritesDue (λ text. text ≡ hotel_out lines)))
-- the canonical text of a game
batch_steps (Show name) = Reads (file Game name) (λ game. EndsWith (WritesDue (λ text. text ≡ canonical_text game)))
-- the canonical text of the same game in version 2
batch_steps (Upgrade name) = Reads (file Game name) (λ game. EndsWith (WritesDue (λ text. text ≡ canonical_text (upgraded game))))
-- the canonical text of the made game
batch_steps (Make seed) = EndsWith (WritesDue (λ text. text ≡ canonical_text (made_game seed)))
-- a best allocation of an account, with a certificate
batch_steps (Solve name) = Reads (file Account name) (λ account. EndsWith (WritesDue (IsSolvedText account)))
-- what one unit more and one unit less of each good would change for an account
batch_steps (Worth name) = Reads (file Account name) (λ account. EndsWith (WritesDue (IsValued account)))
-- a game, played by a script
batch_steps (Play name script) = Reads (file Game name) (λ game. play_steps game script)
-- a game, played line by line
batch_steps (Step name script) = Reads (file Game name) (λ game. step_steps game script)
-- the summary of the made game by the made script
batch_steps (Trial seed count) = EndsWith (WritesDue (IsTrial seed count))
-- whether the log of a game is sound
batch_steps (Audit name log_name) = Reads (file Game name) (λ game. Reads (file Log log_name) (audit_steps game))
-- whether the log of a game is sound, and right about a link
batch_steps (Vouch name log_name asked_name said_name form) =
    Reads (file Game name) (λ game. Reads (file Log log_name) (vouch_steps game (dialect_in form) asked_name said_name))
-- the standings of the teams of several games whose logs are sound
batch_steps (Table pairs) = table_steps [] pairs

-- How the service of a game with a good file may end: its log is written, whole or without its sheet; or the links failed, or a memory
-- allocation failed for the game. What the log says, and what happened to the links, is defined with the service.
abbrev pub IsServiceEnd : Outcome → Type 0
IsServiceEnd (Done text) = ⊤
IsServiceEnd (Lapsed text) = ⊤
IsServiceEnd (Stopped text Memory) = ⊤
IsServiceEnd (Refused LinkFault) = ⊤
IsServiceEnd (Refused Memory) = ⊤
IsServiceEnd outcome = ⊥

-- what a command does
abbrev pub steps_of : Command → Steps
steps_of (Batch command) = batch_steps command
steps_of (Serve service) = Reads (file Game service.game) (λ _. EndsWith IsServiceEnd)

-- The outcome, and the selected names, are those of the command, if there is one; otherwise the usage is written.
abbrev pub Allows : Option Command → FilesState → FilesState → Outcome → Type 0
Allows None files files' outcome = (outcome ≡ Refused Usage) × AreUnasked files files'
Allows (Some command) files files' outcome = Runs (steps_of command) files files' outcome
