-- The scores of a game. The rules of scores are those of `Sheets`.
use Rattle.std.specs.Prelude.{List}
use Rattle.game_text.specs.Games.{GameFile}
use Rattle.auction_core.specs.ClosedGame.{ClosedGame}
use Rattle.score_sheet.specs.Settlement.{settlement_of}
use Rattle.score_sheet.specs.Sheets.{Scored, IsSheet}

-- These are the scores of a game, by the goods and the dollars that its histories leave to each agent.
abbrev pub IsSheetOf : GameFile → ClosedGame → List Scored → Type 0
IsSheetOf game closed sheet = IsSheet game (settlement_of closed.auctions) sheet
