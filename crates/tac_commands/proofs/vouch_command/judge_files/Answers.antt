use Rattle.tac_commands.specs.declared.file_kinds.FileKind.TheVariants.{Bytes}
use Rattle.tac_commands.specs.{file, link_steps, Reads}
use Rattle.tac_commands.proofs.ReadFiles.{ends_later}
use Rattle.tac_commands.proofs.vouch_command.judge_files.Goals as goal

pub returns-in-Ok : goal.returns-in-Ok
returns-in-Ok g c =
    ends_later (g.F.Files.state c.args.files.now) (g.F.Files.state c.read_link.new.files) (file Bytes c.args.asked.now)
    (λ asked. Reads (file Bytes c.args.said.now) (λ said. link_steps c.args.game.now (g.D.Dialect.form c.args.dialect.now) c.args.log.now asked said)) c.in-Ok.asked.items
    c.in-Ok.ensures.value c.in-Ok.ensures.content c.in-Ok.ensures.names c.in-Ok.ensures.quiet (g.F.Files.state c.judge_said.new.files) _ _ c.judge_said.result
    (rw c.as_slice.ensures.value at c.judge_said.ensures)
