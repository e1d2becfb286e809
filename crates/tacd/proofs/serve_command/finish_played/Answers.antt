use Rattle.std.proofs.Common.{sym}
use Rattle.tac_commands.proofs.Endings.{reports_or_stops}
use Rattle.tacd.specs.Finishing.{LogAllows}
use Rattle.tacd.proofs.LapsedGames.{by_code}
use Rattle.tacd.proofs.serve_command.finish_played.Goals as goal

pub returns : goal.returns
returns g c =
    let told = reports_or_stops (LogAllows c.args.game.now c.args.played.now) _ _ _ c.write_log-end.result _ c.write_log-end.ensures c.finish-code.ensures in
    rw c.lapsed_code.ensures (by_code c.args.game.now c.args.played.now _ _ c.missed.result c.finish-code.result told.0 told.1 told.2 (sym c.missed.ensures))
