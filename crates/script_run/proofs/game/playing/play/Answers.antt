use Rattle.script_run.proofs.PlayedGames.{plays_whole, plays_partly}
use Rattle.script_run.proofs.game.playing.play.Goals as goal

pub returns-in-Ok-write_played : goal.returns-in-Ok-write_played
returns-in-Ok-write_played g c =
    plays_whole c.args.game.now c.args.text.now c.in-Ok.played c.counted.result _ _ c.in-Ok.ensures c.in-Ok-write_played.ensures c.counted.ensures

pub returns : goal.returns
returns g c = plays_partly c.args.game.now c.args.text.now c.in-Ok.played c.in-Err-write_played.fault _ _ c.in-Ok.ensures c.in-Err-write_played.ensures
