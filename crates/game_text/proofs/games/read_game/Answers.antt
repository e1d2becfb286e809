use Rattle.std.proofs.Common.{◌∙◌}
use Rattle.game_text.proofs.GameLaws.{if_read, only_game, too_long}
use Rattle.game_text.proofs.games.read_game.Goals as goal

pub returns-clause-found : goal.returns-clause-found
returns-clause-found c = if_read c.args.text.now c.game_of.result c.game_of.ensures

pub returns-clause-only : goal.returns-clause-only
returns-clause-only c = λ game size are is. c.game_of.ensures ∙ only_game c.args.text.now game size are is

pub returns-clause-too_long : goal.returns-clause-too_long
returns-clause-too_long c = too_long c.args.text.now c.game_of.result c.game_of.ensures
