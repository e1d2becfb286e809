use Rattle.tacd.proofs.WrittenLogs.{cut_in_first, cut_in_second, whole, without_second}
use Rattle.tacd.proofs.serve_command.write_log.Goals as goal

pub returns-in-Ok-write_scores : goal.returns-in-Ok-write_scores
returns-in-Ok-write_scores g c =
    let sink = g.K.Sink.state in
    whole c.args.game.now c.args.played.now (sink c.args.out.now) (sink c.write_first.new.out) (sink c.write_scores.new.sink) c.in-Ok.ensures c.in-Ok-write_scores.ensures

pub returns-in-Err-Failed : goal.returns-in-Err-Failed
returns-in-Err-Failed g c =
    let sink = g.K.Sink.state in
    cut_in_second c.args.game.now c.args.played.now (sink c.args.out.now) (sink c.write_first.new.out) (sink c.write_scores.new.sink) c.in-Ok.ensures
    (rw c.in-Err-Failed.field-0-is at c.in-Err-Failed.ensures)

pub returns-in-Err : goal.returns-in-Err
returns-in-Err g c =
    let sink = g.K.Sink.state in
    cut_in_first c.args.game.now c.args.played.now (sink c.args.out.now) (sink c.write_first.new.out) c.in-Err.ensures

pub returns-in-Err-Memory : goal.returns-in-Err-Memory
returns-in-Err-Memory g c =
    let sink = g.K.Sink.state in
    without_second c.args.game.now c.args.played.now (sink c.args.out.now) (sink c.write_first.new.out) (sink c.write_scores.new.sink) c.in-Ok.ensures
    (rw c.in-Err-Memory.field-0-is at c.in-Err-Memory.ensures)
