use Rattle.std.specs.Prelude.{◌≡◌}
use Rattle.tac_commands.specs.{canonical_text, made_game, IsTrial, WritesDue}
use Rattle.tac_commands.proofs.ReadFiles.{ends_alone}
use Rattle.tac_commands.proofs.batch.run_batch.Goals as goal

pub returns-in-Hotel-clause-ends : goal.returns-in-Hotel-clause-ends
returns-in-Hotel-clause-ends g c = rw c.in-Hotel.is c.hotel_by_file.ensures

pub returns-in-Show-clause-ends : goal.returns-in-Show-clause-ends
returns-in-Show-clause-ends g c = rw c.in-Show.is c.show.ensures

pub returns-in-Upgrade-clause-ends : goal.returns-in-Upgrade-clause-ends
returns-in-Upgrade-clause-ends g c = rw c.in-Upgrade.is c.upgrade.ensures

pub returns-in-Make-clause-ends : goal.returns-in-Make-clause-ends
returns-in-Make-clause-ends g c = rw c.in-Make.is (ends_alone (g.F.Files.state c.args.files.now) (WritesDue (λ text. text ≡ canonical_text (made_game c.in-Make.seed))) _ _ _ c.make.ensures)

pub returns-in-Solve-clause-ends : goal.returns-in-Solve-clause-ends
returns-in-Solve-clause-ends g c = rw c.in-Solve.is c.solve_file.ensures

pub returns-in-Worth-clause-ends : goal.returns-in-Worth-clause-ends
returns-in-Worth-clause-ends g c = rw c.in-Worth.is c.worth_file.ensures

pub returns-in-Play-clause-ends : goal.returns-in-Play-clause-ends
returns-in-Play-clause-ends g c = rw c.in-Play.is c.play_files.ensures

pub returns-in-Step-clause-ends : goal.returns-in-Step-clause-ends
returns-in-Step-clause-ends g c = rw c.in-Step.is c.step_files.ensures.ends

pub returns-in-Trial-clause-ends : goal.returns-in-Trial-clause-ends
returns-in-Trial-clause-ends g c =
    rw c.in-Trial.is (ends_alone (g.F.Files.state c.args.files.now) (WritesDue (IsTrial c.in-Trial.seed c.in-Trial.count)) _ _ _ c.trial.ensures)

pub returns-in-Audit-clause-ends : goal.returns-in-Audit-clause-ends
returns-in-Audit-clause-ends g c = rw c.in-Audit.is c.audit_files.ensures

pub returns-in-Vouch-clause-ends : goal.returns-in-Vouch-clause-ends
returns-in-Vouch-clause-ends g c = rw c.in-Vouch.is c.vouch_files.ensures

pub returns-in-Table-clause-ends : goal.returns-in-Table-clause-ends
returns-in-Table-clause-ends g c = rw c.in-Table.is c.table_files.ensures

pub returns-in-Hotel-clause-prompt : goal.returns-in-Hotel-clause-prompt
returns-in-Hotel-clause-prompt g c = rw c.in-Hotel.is tt

pub returns-in-Show-clause-prompt : goal.returns-in-Show-clause-prompt
returns-in-Show-clause-prompt g c = rw c.in-Show.is tt

pub returns-in-Upgrade-clause-prompt : goal.returns-in-Upgrade-clause-prompt
returns-in-Upgrade-clause-prompt g c = rw c.in-Upgrade.is tt

pub returns-in-Make-clause-prompt : goal.returns-in-Make-clause-prompt
returns-in-Make-clause-prompt g c = rw c.in-Make.is tt

pub returns-in-Solve-clause-prompt : goal.returns-in-Solve-clause-prompt
returns-in-Solve-clause-prompt g c = rw c.in-Solve.is tt

pub returns-in-Worth-clause-prompt : goal.returns-in-Worth-clause-prompt
returns-in-Worth-clause-prompt g c = rw c.in-Worth.is tt

pub returns-in-Play-clause-prompt : goal.returns-in-Play-clause-prompt
returns-in-Play-clause-prompt g c = rw c.in-Play.is tt

pub returns-in-Step-clause-prompt : goal.returns-in-Step-clause-prompt
returns-in-Step-clause-prompt g c = rw c.in-Step.is c.step_files.ensures.prompt

pub returns-in-Trial-clause-prompt : goal.returns-in-Trial-clause-prompt
returns-in-Trial-clause-prompt g c = rw c.in-Trial.is tt

pub returns-in-Audit-clause-prompt : goal.returns-in-Audit-clause-prompt
returns-in-Audit-clause-prompt g c = rw c.in-Audit.is tt

pub returns-in-Vouch-clause-prompt : goal.returns-in-Vouch-clause-prompt
returns-in-Vouch-clause-prompt g c = rw c.in-Vouch.is tt

pub returns-in-Table-clause-prompt : goal.returns-in-Table-clause-prompt
returns-in-Table-clause-prompt g c = rw c.in-Table.is tt
