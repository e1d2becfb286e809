use Rattle.tacd.proofs.SoundServices.{reports_soundly, waits_for_missed}
use Rattle.tacd.proofs.serve_command.serve_game.Goals as goal

pub returns-in-Ok : goal.returns-in-Ok
returns-in-Ok g c = λ before after.
    let told = c.finish_played-code.ensures in
    let end = c.in-Ok.ensures.played in
    let waits = rw c.pace.ensures at c.in-Ok.ensures.waits in (
      told.0,
      (
        end,
        waits_for_missed _ _ _ _ _ _ (record { head = c.in-Ok.field-0.head; closed = c.in-Ok.field-0.closed }) c.in-Ok.field-0.links end waits,
        reports_soundly _ _ _ _ _ _ (record { head = c.in-Ok.field-0.head; closed = c.in-Ok.field-0.closed }) c.in-Ok.field-0.links end waits c.log_ranges.ensures told.0 told.1,
      ),
      rw c.number.ensures told.2,
    )
