use Rattle.tac_commands.specs.{dialect_in, link_file_steps, IsFlawText}
use Rattle.tac_commands.proofs.VouchedLogs.{flaw_ends, goes_on}
use Rattle.tac_commands.proofs.vouch_command.vouch_log.Goals as goal

pub returns-in-Ok-Sound : goal.returns-in-Ok-Sound
returns-in-Ok-Sound g c =
    goes_on c.args.game.now c.args.log.now (IsFlawText c.args.game.now c.args.log.now) (link_file_steps c.args.game.now (dialect_in c.args.form) c.args.log.now c.args.asked.now c.args.said.now)
    (g.F.Files.state c.args.files.now) (g.F.Files.state c.judge_form.new.files) _ _ c.judge_form.result (c.in-Ok-Sound.ensures.sound.0 c.in-Ok-Sound.field-0-is) c.judge_form.ensures

pub returns-in-Ok-Unsound : goal.returns-in-Ok-Unsound
returns-in-Ok-Unsound g c =
    flaw_ends c.args.game.now c.args.log.now (link_file_steps c.args.game.now (dialect_in c.args.form) c.args.log.now c.args.asked.now c.args.said.now) c.in-Ok-Unsound.flaw
    (g.F.Files.state c.args.files.now) _ _ c.write_flaw.result
    (rw c.in-Ok-Unsound.field-0-is at c.in-Ok-Unsound.ensures.sound) (rw c.in-Ok-Unsound.field-0-is at c.in-Ok-Unsound.ensures.flaw) c.write_flaw.ensures
