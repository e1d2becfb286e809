use Rattle.script_run.proofs.PlayedGames.{sums_up}
use Rattle.script_run.proofs.game.playing.play_quiet.Goals as goal

pub returns-in-Ok-score_game : goal.returns-in-Ok-score_game
returns-in-Ok-score_game g c = sums_up c.args.game.now c.args.text.now c.in-Ok.played c.counted.result _ c.in-Ok.ensures c.counted.ensures c.in-Ok-score_game.ensures
