use Rattle.script_run.proofs.SteppedEnds.{ends_fault, ends_whole}
use Rattle.script_run.proofs.game.stepping.step_game.Goals as goal

pub returns-in-Ok-write_played-clause-game : goal.returns-in-Ok-write_played-clause-game
returns-in-Ok-write_played-clause-game g c =
    ends_whole c.args.game.now (g.F.Files.state c.args.files.now) (g.F.Files.state c.hear_lines.new.files) (g.K.Sink.state c.args.out.now) (g.K.Sink.state c.hear_lines.new.out)
    (g.K.Sink.state c.write_played.new.sink) c.in-Ok.run' c.end-played.result c.in-Ok.ensures.lines c.end-played.ensures c.in-Ok-write_played.ensures

pub returns-clause-game : goal.returns-clause-game
returns-clause-game g c =
    rw c.step_fault.ensures
    (ends_fault c.args.game.now (g.F.Files.state c.args.files.now) (g.F.Files.state c.hear_lines.new.files) (g.K.Sink.state c.args.out.now) (g.K.Sink.state c.hear_lines.new.out)
    (g.K.Sink.state c.write_played.new.sink) c.in-Ok.run' c.end-played.result c.in-Ok.ensures.lines c.end-played.ensures c.in-Err-write_played.fault c.in-Err-write_played.ensures)
