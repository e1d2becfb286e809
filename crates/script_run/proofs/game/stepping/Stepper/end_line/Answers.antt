use Rattle.std.proofs.Common.{◌≡◌, ℕ, List, refl, subst, Ok}
use Rattle.script_run.specs.declared.fault.ScriptReason.TheVariants.{Form}
use Rattle.script_run.specs.declared.game.stepping.Stepper.{Stepper}
use Rattle.script_run.specs.GameScripts.{judge_game_line}
use Rattle.script_run.proofs.SteppedLines.{ended, failed, long_line, stopped}
use Rattle.script_run.proofs.game.stepping.Stepper.end_line.Goals as goal

pub returns-in_default-clause-line : goal.returns-in_default-clause-line
returns-in_default-clause-line c game given written s =
    stopped game given written c.args.self.now c.args.self.now s Form _ _ refl c.number.ensures (long_line s.lines s.rest (c.in_default.ensures s.rest s.held)) s.ran.text

pub returns-in-Ok-clause-line : goal.returns-in-Ok-clause-line
returns-in-Ok-clause-line c game given written s =
    let stepped = c.in-Ok.ensures.steps game s.lines written s.ran in
    ended game given written c.args.self.now _ s stepped.0 (subst (λ (l : List ℕ). judge_game_line s.lines l ≡ Ok stepped.0) (c.in-Some.ensures s.rest s.held) stepped.1) stepped.2 c.clear.ensures refl

pub returns-in-Err-clause-line : goal.returns-in-Err-clause-line
returns-in-Err-clause-line c game given written s =
    let after : Stepper = record { run = c.step.new.self; held = c.args.self.now.held; number = c.args.self.now.number } in
    failed game given written c.args.self.now after s c.in-Err.fault c.in-Some.line.now (c.in-Some.ensures s.rest s.held) (c.in-Err.ensures.steps game s.lines written s.ran) (c.in-Err.ensures.room c.requires.room)
