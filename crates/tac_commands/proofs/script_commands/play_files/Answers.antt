use Rattle.tac_commands.specs.declared.file_kinds.FileKind.TheVariants.{Game}
use Rattle.tac_commands.specs.{play_steps, file}
use Rattle.tac_commands.proofs.ReadFiles.{ends_later}
use Rattle.tac_commands.proofs.script_commands.play_files.Goals as goal

pub returns-in-Ok : goal.returns-in-Ok
returns-in-Ok g c =
    ends_later (g.F.Files.state c.args.files.now) (g.F.Files.state c.read_value.new.files) (file Game c.args.game.now) (λ game. play_steps game c.args.script.now) c.in-Ok.game
    c.in-Ok.ensures.value c.in-Ok.ensures.content c.in-Ok.ensures.names c.in-Ok.ensures.quiet (g.F.Files.state c.play_by_file.new.files) _ _ c.play_by_file.result c.play_by_file.ensures
