-- What is written of a game that was played, before and after its lapsed ticks are looked at, and its code.
use Rattle.std.specs.Prelude.{◌≡◌, ℕ, ◌<◌, List, nat_lt, if◌then◌else◌}
use Rattle.line_protocol.specs.Heads.{head_of}
use Rattle.game_text.specs.Games.{GameFile}
use Rattle.score_sheet.specs.Sheets.{Scored}
use Rattle.game_log.specs.LogText.{play_part}
use Rattle.game_log.specs.SheetText.{log_text}
use Rattle.game_log.specs.ScoredGames.{IsSheetOf}
use Rattle.game_run.specs.Hosted.{HostedGame}
use Rattle.game_run.specs.Outcomes.{missed_of}
use Rattle.tac_commands.specs.declared.code.Code.{Code}
use Rattle.tac_commands.specs.declared.code.Code.TheVariants.{Success, ClockFault}
use Rattle.tac_commands.specs.declared.refusals.Refusal.TheVariants.{Memory}
use Rattle.tac_commands.specs.Outcomes.{Outcome, Done, Lapsed, Stopped}
use Rattle.tac_commands.specs.Services.{Service, dialect_in}
use Rattle.tacd.specs.declared.answer.Played.{Played}

-- the first part of the log of a game that was played
abbrev pub first_part : Played → List ℕ
first_part played = play_part (head_of played.head) played.closed

-- the text of the log of a game that was played, with some sheet of it
pub record IsTextOfPlayed (game : GameFile) (played : Played) (text : List ℕ) : Type 0 where
  pub sheet : List Scored
  pub scores : IsSheetOf game played.closed sheet
  pub due : text ≡ log_text (head_of played.head) played.closed sheet

-- the log of the game is written, or its first part alone
abbrev pub LogAllows : GameFile → Played → Outcome → Type 0
LogAllows game played (Done text) = IsTextOfPlayed game played text
LogAllows game played (Stopped text Memory) = text ≡ first_part played
LogAllows game played outcome = ⊥

-- what is written once the lapsed ticks were looked at
abbrev pub WritesLog : GameFile → Played → Outcome → Type 0
WritesLog game played (Done text) = IsTextOfPlayed game played text × (missed_of (head_of played.head) ≡ 0)
WritesLog game played (Lapsed text) = IsTextOfPlayed game played text × (0 < missed_of (head_of played.head))
WritesLog game played (Stopped text Memory) = text ≡ first_part played
WritesLog game played outcome = ⊥

-- the game as the service hosts it, in the form and at the port that the words of the command name
abbrev pub hosted_by : Service → GameFile → HostedGame
hosted_by service game = record { game = game; dialect = dialect_in service.form; port = service.port }

-- the code of a game that was played is that of a lapsed tick if no other applies
abbrev pub lapsed_code : Code → ℕ → Code
lapsed_code Success missed = if nat_lt 0 missed then ClockFault else Success
lapsed_code code missed = code
