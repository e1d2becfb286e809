use Rattle.std.proofs.Common.{refl}
use Rattle.game_log.specs.Gathering.{GathersPart}
use Rattle.game_log.proofs.Writing.{refused}
use Rattle.game_log.proofs.gathered.Gathered.add.Goals as goal

pub returns-in_err-write : goal.returns-in_err-write
returns-in_err-write g c =
    let held = c.args.self.now in
    let part : GathersPart c.args.text.now held _ _ = record { written = held; rest = c.args.text.now; split = refl; took = c.in_err-write.ensures.text } in
    refused c.args.text.now held _ _ _ c.from_residual.result part c.from_residual.ensures.0
