use Rattle.tac_commands.specs.{WritesDue, EndsWith}
use Rattle.std.specs.Prelude.{◌≡◌, codes}
use Rattle.tac_commands.proofs.VouchedLogs.{flaw_ends}
use Rattle.tac_commands.proofs.audit_command.judge.Goals as goal

pub returns-in-Unsound : goal.returns-in-Unsound
returns-in-Unsound g c = λ files.
    flaw_ends c.args.game.now c.args.log.now (EndsWith (WritesDue (λ text. text ≡ codes "sound\n"))) c.in-Unsound.flaw files _ _ c.write_flaw.result
    (rw c.in-Unsound.is at c.in-Ok.ensures.sound) (rw c.in-Unsound.is at c.in-Ok.ensures.flaw) c.write_flaw.ensures
