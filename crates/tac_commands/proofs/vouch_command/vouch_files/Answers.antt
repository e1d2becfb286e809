use Rattle.tac_commands.specs.declared.file_kinds.FileKind.TheVariants.{Game, Log}
use Rattle.tac_commands.specs.{dialect_in, file, vouch_steps, Reads}
use Rattle.tac_commands.proofs.ReadFiles.{ends_later}
use Rattle.tac_commands.proofs.vouch_command.vouch_files.Goals as goal

pub returns-in-Ok : goal.returns-in-Ok
returns-in-Ok g c =
    ends_later (g.F.Files.state c.args.files.now) (g.F.Files.state c.read_value.new.files) (file Game c.args.game.now)
    (λ game. Reads (file Log c.args.log.now) (vouch_steps game (dialect_in c.args.form) c.args.asked.now c.args.said.now)) c.in-Ok.game
    c.in-Ok.ensures.value c.in-Ok.ensures.content c.in-Ok.ensures.names c.in-Ok.ensures.quiet (g.F.Files.state c.vouch_by_file.new.files) _ _ c.vouch_by_file.result c.vouch_by_file.ensures
