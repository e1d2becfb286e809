-- The headline: what `serve` has written if it ends with code 0.
use Rattle.std.specs.Prelude.{◌≡◌, ℕ, ◌≤◌, List, Ok, All}
use Rattle.tac_base.specs.Goods.{clock}
use Rattle.line_protocol.specs.Heads.{Serve}
use Rattle.game_text.specs.Games.{GameFile, game_of}
use Rattle.tac_io.specs.Reading.{IsFile}
use Rattle.score_sheet.specs.Sheets.{Scored}
use Rattle.tac_io.specs.States.{LinkState}
use Rattle.tac_io.specs.Taken.{TookWhole}
use Rattle.game_log.specs.SheetText.{log_text}
use Rattle.game_log.specs.ScoredGames.{IsSheetOf}
use Rattle.game_run.specs.PlayedGame.{PlayedGame}
use Rattle.tac_commands.specs.Cash.{IsCashOfPosts}
use Rattle.tac_commands.specs.Outsides.{Outside}
use Rattle.tac_commands.specs.Services.{Service, dialect_in}
use Rattle.game_run.specs.PlayedLinks.{IsPlayedGame}

module _ {L : Type 0} (state : L → LinkState) where
  -- What `serve` wrote, if it ends with code 0: the log of a game. All fields are about one `game`, one `played` and one `sheet`, which
  -- exist; `ended` is what became of the links, in the order of the log's verdicts.
  pub record WritesTrueLog (service : Service) (before after : Outside L) (ended : List L) : Type 0 where
    pub game : GameFile
    -- The game is that of the file that the command names, so the clock's calls are those of the game file.
    pub file : (bytes : List ℕ) × IsFile before.files.content service.game bytes × (game_of bytes ≡ Ok game)
    pub played : PlayedGame
    pub sheet : List Scored
    -- The log was written whole. No tick was missed, so the number at the end of its head is 0.
    pub written : TookWhole before.out after.out (log_text (Serve played.verdicts played.ends 0) played.closed sheet)
    -- The log holds 29 legal one-thread histories. In each of them, every agent's calls are those that its link asked for. Each call
    -- occurs once, comes after everything that the agent had seen, and has the reply that the agent got.
    pub over : IsPlayedGame state (record { game = game; dialect = dialect_in service.form; port = service.port }) before.links after.links played ended
    -- Nobody but the agents and the clock called the cash book.
    pub callers : All (λ e. e.caller ≤ clock) played.closed.cash
    -- Each score is the greatest utility over all feasible allocations, less costs and penalties.
    pub scores : IsSheetOf game played.closed sheet
    -- The cash of each agent is the sum of its net amounts over all posts, which by `over` are those of the recorded trades.
    pub cash : IsCashOfPosts played.closed
