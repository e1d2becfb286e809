use Rattle.std.proofs.Common.{inl}
use Rattle.tacd.proofs.serve_command.serve.Goals as goal

pub returns-in-Lines-clause-outcome : goal.returns-in-Lines-clause-outcome
returns-in-Lines-clause-outcome g c =
    let served = c.serve_game.ensures (g.F.Files.state c.args.files.now) (g.F.Files.state c.read_value.new.files) in
    rw c.in-Lines.is (served.0, inl (c.in-Ok.game, c.in-Ok.ensures.value, served.1, c.in-Ok.ensures.quiet), served.2)

pub returns-in-Json-clause-outcome : goal.returns-in-Json-clause-outcome
returns-in-Json-clause-outcome g c =
    let served = c.serve_game-in-Json.ensures (g.F.Files.state c.args.files.now) (g.F.Files.state c.read_value.new.files) in
    rw c.in-Json.is (served.0, inl (c.in-Ok.game, c.in-Ok.ensures.value, served.1, c.in-Ok.ensures.quiet), served.2)
