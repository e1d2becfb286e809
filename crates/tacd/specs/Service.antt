-- What `serve` does: the game that it played, its log, the links and the ticker.
use Rattle.std.specs.Prelude.{◌≡◌, ℕ, ◌<◌, ◌⊎◌, List, [], Ok, Err, Some, None, MatchOption, option_map}
use Rattle.std.specs.Global.{Vec}
use Rattle.line_protocol.specs.Heads.{head_of}
use Rattle.game_text.specs.Games.{GameFile, game_of}
use Rattle.score_sheet.specs.Sheets.{Scored}
use Rattle.tac_io.specs.Counts.{Rose}
use Rattle.tac_io.specs.States.{LinkState, FilesState}
use Rattle.clock_events.specs.Clocking.{WaitsForAll}
use Rattle.game_log.specs.LogText.{play_part}
use Rattle.game_log.specs.SheetText.{log_text}
use Rattle.game_log.specs.ScoredGames.{IsSheetOf}
use Rattle.game_run.specs.Hosted.{HostedGame}
use Rattle.game_run.specs.Outcomes.{IsGameEnd, IsNotPlayed}
use Rattle.tac_commands.specs.declared.refusals.Refusal.{Refusal}
use Rattle.tac_commands.specs.declared.refusals.Refusal.TheVariants.{ReadFault, LinkFault, Memory}
use Rattle.tac_commands.specs.FileKinds.{game_refusal}
use Rattle.tac_commands.specs.Outcomes.{Outcome, Done, Lapsed, Stopped, Refused}
use Rattle.tac_commands.specs.Outsides.{Outside}
use Rattle.tac_commands.specs.Reporting.{Reports}
use Rattle.tac_io.specs.Reading.{IsFile}
use Rattle.game_text.specs.declared.fault.GameFault.{GameFault}
use Rattle.tacd.specs.declared.answer.Answer.{Answer}
use Rattle.tacd.specs.declared.answer.Played.{Played}
use Rattle.tac_commands.specs.Services.{Service, dialect_in}
use Rattle.tacd.specs.SoundLogs.{IsSoundLog}

-- ---- the game file

-- The file of this name holds the text of the game.
abbrev pub IsGameFile : FilesState → List ℕ → GameFile → Type 0
IsGameFile files name game = (bytes : List ℕ) × IsFile files.content name bytes × (game_of bytes ≡ Ok game)

-- what is written if that file could not be read: a read failed, a memory allocation failed, or the file is refused
abbrev pub IsNoGameFile : FilesState → FilesState → List ℕ → Refusal → Type 0
IsNoGameFile files files' name refusal =
    ((refusal ≡ ReadFault) × Rose files.faults files'.faults)
    ⊎ ((refusal ≡ Memory) × (files'.faults ≡ files.faults))
    ⊎ ((fault : GameFault) × (refusal ≡ game_refusal fault) × ((bytes : List ℕ) × IsFile files.content name bytes × (game_of bytes ≡ Err fault)) × (files'.faults ≡ files.faults))

-- ---- the text

-- The log of a game that was played, with some sheet of it: for each agent the greatest total utility over all feasible allocations, plus
-- its cash, less the penalties. That log is sound.
pub record IsLogOf (game : GameFile) (played : Played) (text : List ℕ) : Type 0 where
  pub sheet : List Scored
  pub scores : IsSheetOf game played.closed sheet
  pub due : text ≡ log_text (head_of played.head) played.closed sheet
  pub sound : IsSoundLog game played sheet text

-- the log of the game that was played is written, with another code if ticks lapsed; or its first part alone, if an allocation failed
-- for its sheet
abbrev pub PlayedAllows : GameFile → Played → ℕ → Outcome → Type 0
PlayedAllows game played missed (Done text) = IsLogOf game played text × (missed ≡ 0)
PlayedAllows game played missed (Lapsed text) = IsLogOf game played text × (0 < missed)
PlayedAllows game played missed (Stopped text Memory) = text ≡ play_part (head_of played.head) played.closed
PlayedAllows game played missed outcome = ⊥

-- ---- the links and the ticker

-- the outside once the pace of the ticker is set
abbrev pub at_pace : {L : Type 0} → ℕ → Outside L → Outside L
at_pace pace outside = record outside { ticker = record (outside.ticker) { paced = option_map (λ _. Some pace) outside.ticker.paced } }

module _ {L : Type 0} (state : L → LinkState) where
  -- no game was played: the links failed; or a memory allocation failed for the game, and the links are unchanged
  abbrev pub HasNoGame : HostedGame → Outside L → Outside L → Vec L → Outcome → Type 0
  HasNoGame hosted before after ended (Refused LinkFault) = IsNotPlayed state hosted before.links after.links ended.items × (after.ticker ≡ before.ticker)
  HasNoGame hosted before after ended (Refused Memory) = (after.links ≡ before.links) × (ended.items ≡ []) × (after.ticker ≡ before.ticker)
  HasNoGame hosted before after ended outcome = ⊥

  -- The game was played over the links and by the ticker, and its log is written; or no game was played. So a game was played exactly if
  -- the server listened and the links did not fail.
  abbrev pub ServesGame : HostedGame → Outside L → Outside L → Answer L → Outcome → Type 0
  ServesGame hosted before after answer outcome = MatchOption answer.played
      (HasNoGame hosted before after answer.ended outcome)
      (λ played. (end : IsGameEnd state hosted before.links after.links (record { closed = played.closed; head = played.head; links = answer.ended }))
      × WaitsForAll before.ticker after.ticker end.missed
      × PlayedAllows hosted.game played end.missed outcome)

  -- the game of that file is served; or the game file is refused, and links and ticker are unchanged
  abbrev pub ServeAllows : Service → Outside L → Outside L → Answer L → Outcome → Type 0
  ServeAllows service before after answer outcome =
      ((game : GameFile) × IsGameFile before.files service.game game
      × ServesGame (record { game = game; dialect = dialect_in service.form; port = service.port }) (at_pace service.pace before) after answer outcome
      × (after.files.faults ≡ before.files.faults))
      ⊎ ((refusal : Refusal) × (outcome ≡ Refused refusal) × IsNoGameFile before.files after.files service.game refusal
      × (after.links ≡ before.links) × (after.ticker ≡ before.ticker) × (answer.ended.items ≡ []) × (answer.played ≡ None))

  -- the service of that game changed the outside in this way, wrote what is due, and returned this answer
  abbrev pub Serves : Service → Outside L → Outside L → Answer L → Type 0
  Serves service before after answer = (outcome : Outcome) × ServeAllows service before after answer outcome × Reports outcome before.out after.out answer.code
