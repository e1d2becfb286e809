use Rattle.std.proofs.Common.{refl, sym, subst, inl}
use Rattle.tac_io.specs.Known.{IsAtEnd}
use Rattle.tac_commands.proofs.PromptSteps.{hears_promptly}
use Rattle.tac_commands.proofs.SteppedScripts.{stepped}
use Rattle.tac_commands.proofs.step_command.step_by_file.Goals as goal

pub returns-in-Ok-clause-ends : goal.returns-in-Ok-clause-ends
returns-in-Ok-clause-ends g c =
    rw c.step_end.ensures (
    stepped c.args.game.now c.script_law.ensures (g.F.Files.state c.args.files.now) (g.F.Files.state c.select.new.self) (g.F.Files.state c.step_game.new.files) c.args.name.now _ _
    c.in-Ok.ensures.found c.select.ensures.names c.in-Ok.ensures.cause c.step_game.ensures.names c.step_game.result c.step_game.ensures.game
    )

pub returns-in-Err-clause-ends : goal.returns-in-Err-clause-ends
returns-in-Err-clause-ends g c =
    inl ((inl (inl (refl, subst IsAtEnd (sym c.in-Err.ensures.kept) c.requires.end, c.in-Err.ensures.cause)), c.select.ensures.names), refl)

pub returns-in-Ok-clause-prompt : goal.returns-in-Ok-clause-prompt
returns-in-Ok-clause-prompt g c =
    hears_promptly c.args.game.now (g.F.Files.state c.args.files.now) (g.F.Files.state c.select.new.self) (g.F.Files.state c.step_game.new.files) c.args.name.now _ _ c.step_game.result
    (g.F.Files.state c.args.files.now).content c.in-Ok.ensures.found c.step_game.ensures.game
