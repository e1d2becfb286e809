use Rattle.tac_commands.specs.declared.file_kinds.FileKind.TheVariants.{Bytes}
use Rattle.tac_commands.specs.{file, link_steps}
use Rattle.tac_commands.proofs.ReadFiles.{ends_later}
use Rattle.tac_commands.proofs.vouch_command.judge_said.Goals as goal

pub returns-in-Ok : goal.returns-in-Ok
returns-in-Ok g c =
    let read = g.F.Files.state c.read_link.new.files in
    ends_later (g.F.Files.state c.args.files.now) read (file Bytes c.args.said.now) (λ said. link_steps c.args.game.now (g.D.Dialect.form c.args.dialect.now) c.args.log.now c.args.asked.now said)
    c.in-Ok.said.items c.in-Ok.ensures.value c.in-Ok.ensures.content c.in-Ok.ensures.names c.in-Ok.ensures.quiet read _ _ c.judge_link.result
    (rw c.as_slice.ensures.value at (c.judge_link.ensures read))
