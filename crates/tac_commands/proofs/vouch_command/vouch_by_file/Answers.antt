use Rattle.tac_commands.specs.declared.file_kinds.FileKind.TheVariants.{Log}
use Rattle.tac_commands.specs.{dialect_in, file, vouch_steps}
use Rattle.tac_commands.proofs.ReadFiles.{ends_later}
use Rattle.tac_commands.proofs.vouch_command.vouch_by_file.Goals as goal

pub returns-in-Ok : goal.returns-in-Ok
returns-in-Ok g c =
    ends_later (g.F.Files.state c.args.files.now) (g.F.Files.state c.read_value.new.files) (file Log c.args.log.now)
    (vouch_steps c.args.game.now (dialect_in c.args.form) c.args.asked.now c.args.said.now) c.in-Ok.log
    c.in-Ok.ensures.value c.in-Ok.ensures.content c.in-Ok.ensures.names c.in-Ok.ensures.quiet (g.F.Files.state c.vouch_log.new.files) _ _ c.vouch_log.result c.vouch_log.ensures
