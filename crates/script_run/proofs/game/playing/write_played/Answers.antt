use Rattle.script_run.proofs.PlayedGames.{fails_after}
use Rattle.script_run.proofs.game.playing.write_played.Goals as goal

pub returns-in-Err-Failed : goal.returns-in-Err-Failed
returns-in-Err-Failed g c =
    let sink = g.K.Sink.state in
    fails_after c.args.game.now c.args.played.now (sink c.args.sink.now) (sink c.write_first.new.sink) (sink c.write_scores.new.sink) c.in-Ok.ensures
    (rw c.in-Err-Failed.field-0-is at c.in-Err-Failed.ensures)
