use Rattle.tac_commands.specs.declared.file_kinds.FileKind.TheVariants.{Game}
use Rattle.tac_commands.specs.{step_steps, file}
use Rattle.tac_commands.proofs.PromptSteps.{steps_promptly, unread_promptly}
use Rattle.tac_commands.proofs.ReadFiles.{ends_later}
use Rattle.tac_commands.proofs.step_command.step_files.Goals as goal

pub returns-in-Ok-clause-ends : goal.returns-in-Ok-clause-ends
returns-in-Ok-clause-ends g c =
    ends_later (g.F.Files.state c.args.files.now) (g.F.Files.state c.read_value.new.files) (file Game c.args.game.now) (λ game. step_steps game c.args.script.now) c.in-Ok.game
    c.in-Ok.ensures.value c.in-Ok.ensures.content c.in-Ok.ensures.names c.in-Ok.ensures.quiet (g.F.Files.state c.step_by_file.new.files) _ _ c.step_by_file.result c.step_by_file.ensures.ends

pub returns-in-Ok-clause-prompt : goal.returns-in-Ok-clause-prompt
returns-in-Ok-clause-prompt g c =
    steps_promptly (g.F.Files.state c.args.files.now) (g.F.Files.state c.read_value.new.files) (g.F.Files.state c.step_by_file.new.files) c.args.game.now c.args.script.now _ _ c.in-Ok.game
    c.in-Ok.ensures.value c.in-Ok.ensures.content c.in-Ok.ensures.quiet c.step_by_file.ensures.prompt

pub returns-in-Err-clause-prompt : goal.returns-in-Err-clause-prompt
returns-in-Err-clause-prompt g c =
    unread_promptly (g.F.Files.state c.args.files.now) (g.F.Files.state c.read_value.new.files) (g.F.Files.state c.read_value.new.files) c.args.game.now c.args.script.now _ _
    c.requires c.in-Err.ensures.names
