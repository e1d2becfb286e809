use Rattle.tac_commands.proofs.vouch_command.judge_form.Goals as goal

pub returns-in-Lines : goal.returns-in-Lines
returns-in-Lines g c = rw c.in-Lines.is c.judge_files.ensures

pub returns-in-Json : goal.returns-in-Json
returns-in-Json g c = rw c.in-Json.is c.judge_files-in-Json.ensures
