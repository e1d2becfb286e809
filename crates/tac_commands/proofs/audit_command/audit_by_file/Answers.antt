use Rattle.tac_commands.specs.declared.file_kinds.FileKind.TheVariants.{Log}
use Rattle.tac_commands.specs.{audit_steps, file}
use Rattle.tac_commands.proofs.ReadFiles.{ends_later}
use Rattle.tac_commands.proofs.audit_command.audit_by_file.Goals as goal

pub returns-in-Ok : goal.returns-in-Ok
returns-in-Ok g c =
    let read = g.F.Files.state c.read_value.new.files in
    ends_later (g.F.Files.state c.args.files.now) read (file Log c.args.name.now) (audit_steps c.args.game.now) _ c.in-Ok.ensures.value c.in-Ok.ensures.content c.in-Ok.ensures.names c.in-Ok.ensures.quiet
    read _ _ c.judge.result (c.judge.ensures read)
